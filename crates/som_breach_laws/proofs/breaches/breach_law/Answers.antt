use Rattle.som_release_laws.proofs.Accepting.{interface_ordered}
use Rattle.som_breach_laws.proofs.Breaking.{first_told, none_told, one_breach, told_first, told_none}
use Rattle.som_breach_laws.proofs.breaches.breach_law.Goals as goal

pub returns-clause-told : goal.returns-clause-told
returns-clause-told c = λ old new b e. (first_told old new (interface_ordered new e) b, told_first old new (interface_ordered new e) b)

pub returns-clause-one : goal.returns-clause-one
returns-clause-one c = λ old new a b e. one_breach old new (interface_ordered new e) a b

pub returns-clause-kept : goal.returns-clause-kept
returns-clause-kept c = λ old new e. (none_told old new (interface_ordered new e), told_none old new (interface_ordered new e))
