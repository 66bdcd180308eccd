use Rattle.som_rekey_laws.proofs.FactsKept.{facts_kept, running_kept}
use Rattle.som_rekey_laws.proofs.metaclasses.rekeyed_facts_law.Goals as goal

pub returns-clause-declared : goal.returns-clause-declared
returns-clause-declared c = facts_kept

pub returns-clause-running : goal.returns-clause-running
returns-clause-running c = running_kept
