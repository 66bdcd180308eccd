use Rattle.som_verify_classes.proofs.PlainWhole.{release_falls}
use Rattle.som_verify_classes.proofs.laws.parents_lower_law.Goals as goal

pub returns : goal.returns
returns c = release_falls
