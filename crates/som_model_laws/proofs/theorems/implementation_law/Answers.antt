use Rattle.som_model_laws.proofs.Laws.{implementation_exists, implementation_body, implementation_above, implementation_below}
use Rattle.som_model_laws.proofs.theorems.implementation_law.Goals as goal

pub returns-clause-exists : goal.returns-clause-exists
returns-clause-exists g c h falls tells has_body chosen a x picks own d = implementation_exists h has_body chosen a picks tells falls own x d

pub returns-clause-has_body : goal.returns-clause-has_body
returns-clause-has_body g c h has_body chosen a x y e = implementation_body h has_body chosen a x y e

pub returns-clause-above : goal.returns-clause-above
returns-clause-above g c h has_body chosen a x y picks e = implementation_above h has_body chosen a picks x y e

pub returns-clause-below : goal.returns-clause-below
returns-clause-below g c h falls tells has_body chosen a x y picks d e = implementation_below h has_body chosen a picks tells falls x y d e
