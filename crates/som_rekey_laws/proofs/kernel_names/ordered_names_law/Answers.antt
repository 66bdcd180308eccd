use Rattle.som_rekey_laws.proofs.OrderedNames.{ordered_named, ordered_targets, ordered_metaclasses, ordered_kernel}
use Rattle.som_rekey_laws.proofs.kernel_names.ordered_names_law.Goals as goal

pub returns-clause-named : goal.returns-clause-named
returns-clause-named c = ordered_named

pub returns-clause-targets : goal.returns-clause-targets
returns-clause-targets c = ordered_targets

pub returns-clause-metaclasses : goal.returns-clause-metaclasses
returns-clause-metaclasses c = ordered_metaclasses

pub returns-clause-kernel : goal.returns-clause-kernel
returns-clause-kernel c = ordered_kernel
