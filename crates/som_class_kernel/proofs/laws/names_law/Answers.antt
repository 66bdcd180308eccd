use Rattle.som_class_kernel.proofs.Above.{has_classes}
use Rattle.som_class_kernel.proofs.laws.names_law.Goals as goal

pub returns : goal.returns
returns c = λ l n linked loaded made. has_classes l linked loaded n made
