use Rattle.som_class_layout_laws.proofs.FirstParent.{first_ancestors, less_later}
use Rattle.som_class_layout_laws.proofs.laying_laws.first_parent_law.Goals as goal

pub returns-clause-ancestors : goal.returns-clause-ancestors
returns-clause-ancestors g c = λ h tells falls. first_ancestors h tells falls

pub returns-clause-later : goal.returns-clause-later
returns-clause-later g c = less_later
