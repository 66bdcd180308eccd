use Rattle.std.proofs.Common.{length}
use Rattle.som_image_fields.specs.Spelling.{FitsMethod}
use Rattle.som_image_decode.specs.Naming.{ranges_in}
use Rattle.som_image_decode.proofs.NamedLimits.{named_is_within}
use Rattle.som_image_decode.proofs.laws.named_blocks_are_within.Goals as goal

pub returns : goal.returns
returns c = λ d b fits. named_is_within d (length d.keys) (FitsMethod (ranges_in d)) b fits
