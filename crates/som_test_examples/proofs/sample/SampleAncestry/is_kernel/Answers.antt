use Rattle.som_test_examples.proofs.Classes.{kernel_is}
use Rattle.som_test_examples.proofs.sample.SampleAncestry.is_kernel.Goals as goal

pub returns : goal.returns
returns c = rw c.number.ensures (kernel_is c.args.class c.requires)
