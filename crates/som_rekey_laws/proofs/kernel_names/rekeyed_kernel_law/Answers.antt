use Rattle.som_rekey_laws.proofs.BodiesKept.{kernel_kept}
use Rattle.som_rekey_laws.proofs.KernelKept.{kernel_classes_stay, with_kernel}
use Rattle.som_rekey_laws.proofs.kernel_names.rekeyed_kernel_law.Goals as goal

pub returns-clause-key : goal.returns-clause-key
returns-clause-key c = kernel_kept

pub returns-clause-classes : goal.returns-clause-classes
returns-clause-classes c = kernel_classes_stay

pub returns-clause-before : goal.returns-clause-before
returns-clause-before c = with_kernel
