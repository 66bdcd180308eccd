use Rattle.som_rekey_rules.proofs.LoadsRekeyed.{compiled_kept}
use Rattle.som_rekey_rules.proofs.loading.rekeyed_compiled_law.Goals as goal

pub returns : goal.returns
returns c = compiled_kept
