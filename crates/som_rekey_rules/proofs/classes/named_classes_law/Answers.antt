use Rattle.som_rekey_rules.proofs.ClassesNamed.{all_named, all_targets, all_metaclasses, all_inherited, declared_answers, running_answers}
use Rattle.som_rekey_rules.proofs.classes.named_classes_law.Goals as goal

pub returns-clause-named : goal.returns-clause-named
returns-clause-named c = all_named

pub returns-clause-targets : goal.returns-clause-targets
returns-clause-targets c = all_targets

pub returns-clause-metaclasses : goal.returns-clause-metaclasses
returns-clause-metaclasses c = all_metaclasses

pub returns-clause-inherited : goal.returns-clause-inherited
returns-clause-inherited c = all_inherited

pub returns-clause-declared : goal.returns-clause-declared
returns-clause-declared c f names kk apart cs are = declared_answers names cs are f kk apart

pub returns-clause-running : goal.returns-clause-running
returns-clause-running c f names kk apart cs are = running_answers names cs are f kk apart
