use Rattle.som_machine_laws.proofs.Known.{code_signed, kernel_signed}
use Rattle.som_machine_laws.proofs.name_laws.signatures_law.Goals as goal

pub returns-clause-named : goal.returns-clause-named
returns-clause-named c cs main loads b params m = code_signed cs main loads b params m

pub returns-clause-kernel : goal.returns-clause-kernel
returns-clause-kernel c cs main loads r m = kernel_signed cs main loads r m
