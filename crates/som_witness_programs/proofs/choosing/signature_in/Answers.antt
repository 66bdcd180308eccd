use Rattle.std.proofs.Common.{◌∙◌}
use Rattle.som_verify_forms.specs.Knowing.{all_of}
use Rattle.som_verify_forms.proofs.Facts.{signature_said}
use Rattle.som_witness_programs.proofs.choosing.signature_in.Goals as goal

pub returns : goal.returns
returns c = c.signature_of.ensures.is ∙ signature_said (all_of c.args.known.now) c.args.method.now
