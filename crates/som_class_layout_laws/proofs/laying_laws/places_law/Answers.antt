use Rattle.som_class_layout_laws.proofs.DataRows.{own_place, places_apart, variable_shown}
use Rattle.som_class_layout_laws.proofs.laying_laws.places_law.Goals as goal

pub returns-clause-variable : goal.returns-clause-variable
returns-clause-variable g c = λ h tells falls own. variable_shown h tells own falls

pub returns-clause-apart : goal.returns-clause-apart
returns-clause-apart g c = λ h tells falls own. places_apart h tells own falls

pub returns-clause-own : goal.returns-clause-own
returns-clause-own g c = λ h tells falls own. own_place h tells own falls
