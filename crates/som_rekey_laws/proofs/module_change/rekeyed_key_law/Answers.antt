use Rattle.som_rekey_laws.proofs.KeysApart.{keys_kept}
use Rattle.som_rekey_laws.proofs.module_change.rekeyed_key_law.Goals as goal

pub returns : goal.returns
returns c = keys_kept
