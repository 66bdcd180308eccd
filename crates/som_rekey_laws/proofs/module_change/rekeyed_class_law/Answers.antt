use Rattle.som_rekey_laws.proofs.Places.{class_kept}
use Rattle.som_rekey_laws.proofs.module_change.rekeyed_class_law.Goals as goal

pub returns : goal.returns
returns c = class_kept
