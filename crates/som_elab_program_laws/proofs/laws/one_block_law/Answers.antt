use Rattle.som_elab_program_laws.proofs.OneBlock.{one_block}
use Rattle.som_elab_program_laws.proofs.OneExpression.{one_expr}
use Rattle.som_elab_program_laws.proofs.laws.one_block_law.Goals as goal

pub returns-clause-expression : goal.returns-clause-expression
returns-clause-expression c = λ a at scope e x y once p q. one_expr a at scope once e x y p q

pub returns-clause-block : goal.returns-clause-block
returns-clause-block c = λ a at scope b x y once h p. one_block a at b scope once x h y p
