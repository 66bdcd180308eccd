use Rattle.som_cliimage.proofs.Decoded.{image_within}
use Rattle.som_cliimage.proofs.laws.images_are_within_limits.Goals as goal

pub returns : goal.returns
returns c = image_within
