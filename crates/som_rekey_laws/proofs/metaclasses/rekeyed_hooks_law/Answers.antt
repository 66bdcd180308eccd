use Rattle.som_rekey_laws.proofs.MetasKept.{hooks_kept}
use Rattle.som_rekey_laws.proofs.metaclasses.rekeyed_hooks_law.Goals as goal

pub returns : goal.returns
returns c = hooks_kept
