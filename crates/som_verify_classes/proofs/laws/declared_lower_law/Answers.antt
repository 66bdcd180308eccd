use Rattle.som_verify_classes.proofs.PlainMoves.{lower}
use Rattle.som_verify_classes.proofs.laws.declared_lower_law.Goals as goal

pub returns : goal.returns
returns c = lower
