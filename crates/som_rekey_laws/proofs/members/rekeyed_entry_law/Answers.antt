use Rattle.som_rekey_laws.proofs.OwnersKept.{entry_kept, introduced_kept, byname_kept}
use Rattle.som_rekey_laws.proofs.members.rekeyed_entry_law.Goals as goal

pub returns-clause-entry : goal.returns-clause-entry
returns-clause-entry c = entry_kept

pub returns-clause-introduced : goal.returns-clause-introduced
returns-clause-introduced c = introduced_kept

pub returns-clause-by_name : goal.returns-clause-by_name
returns-clause-by_name c = byname_kept
