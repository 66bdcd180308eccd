use Rattle.som_rekey_laws.proofs.Places.{ancestors_kept, descent_kept}
use Rattle.som_rekey_laws.proofs.module_change.rekeyed_ancestors_law.Goals as goal

pub returns-clause-ancestors : goal.returns-clause-ancestors
returns-clause-ancestors c = ancestors_kept

pub returns-clause-descent : goal.returns-clause-descent
returns-clause-descent c = descent_kept
