use Rattle.som_rekey_laws.proofs.Places.{hierarchy_kept}
use Rattle.som_rekey_laws.proofs.module_change.rekeyed_hierarchy_law.Goals as goal

pub returns : goal.returns
returns c = hierarchy_kept
