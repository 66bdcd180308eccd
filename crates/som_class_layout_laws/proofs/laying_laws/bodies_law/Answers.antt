use Rattle.som_class_layout_laws.proofs.Rows.{cell_answers, has_token}
use Rattle.som_class_layout_laws.proofs.laying_laws.bodies_law.Goals as goal

pub returns-clause-token : goal.returns-clause-token
returns-clause-token g c = has_token

pub returns-clause-body : goal.returns-clause-body
returns-clause-body g c = cell_answers
