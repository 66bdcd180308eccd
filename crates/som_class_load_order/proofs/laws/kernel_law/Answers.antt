use Rattle.som_class_load_order.proofs.FirstFour.{kernel_needs}
use Rattle.som_class_load_order.proofs.laws.kernel_law.Goals as goal

pub returns : goal.returns
returns c = kernel_needs
