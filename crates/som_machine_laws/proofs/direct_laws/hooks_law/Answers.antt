use Rattle.som_machine_laws.proofs.Hooking.{call_hooks}
use Rattle.som_machine_laws.proofs.direct_laws.hooks_law.Goals as goal

pub returns-clause-call : goal.returns-clause-call
returns-clause-call c w made x q without m = call_hooks w made x q without m

pub returns-clause-fewer : goal.returns-clause-fewer
returns-clause-fewer c w made more grows without k m = without k (grows k m)
