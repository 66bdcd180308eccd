use Rattle.som_elab_laws.proofs.ExpressionLaws.{expr_says}
use Rattle.som_elab_laws.proofs.laws.expression_law.Goals as goal

pub returns : goal.returns
returns c = expr_says
