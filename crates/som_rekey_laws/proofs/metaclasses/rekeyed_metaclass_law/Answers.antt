use Rattle.som_rekey_laws.proofs.MetasKept.{meta_kept, meta_named, rank_kept}
use Rattle.som_rekey_laws.proofs.metaclasses.rekeyed_metaclass_law.Goals as goal

pub returns-clause-meta : goal.returns-clause-meta
returns-clause-meta c = meta_kept

pub returns-clause-named : goal.returns-clause-named
returns-clause-named c = meta_named

pub returns-clause-rank : goal.returns-clause-rank
returns-clause-rank c = rank_kept
