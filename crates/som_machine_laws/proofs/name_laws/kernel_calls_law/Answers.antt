use Rattle.som_machine_laws.proofs.KernelCalls.{kernel_own}
use Rattle.som_machine_laws.proofs.name_laws.kernel_calls_law.Goals as goal

pub returns-clause-entry : goal.returns-clause-entry
returns-clause-entry c cs main loads r m = (kernel_own cs loads.faces.ordered r m).entry

pub returns-clause-owner : goal.returns-clause-owner
returns-clause-owner c cs main loads r m = (kernel_own cs loads.faces.ordered r m).owner
