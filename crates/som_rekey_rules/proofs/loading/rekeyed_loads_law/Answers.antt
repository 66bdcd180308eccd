use Rattle.som_rekey_rules.proofs.LoadsRekeyed.{is_ordered, faces_load, loadable_kept, loads_kept}
use Rattle.som_rekey_rules.proofs.loading.rekeyed_loads_law.Goals as goal

pub returns-clause-ordered : goal.returns-clause-ordered
returns-clause-ordered c = is_ordered

pub returns-clause-faces : goal.returns-clause-faces
returns-clause-faces c = faces_load

pub returns-clause-loadable : goal.returns-clause-loadable
returns-clause-loadable c = loadable_kept

pub returns-clause-loads : goal.returns-clause-loads
returns-clause-loads c = loads_kept
