use Rattle.som_test_kernel.proofs.Loading.{none_plain}
use Rattle.som_test_kernel.proofs.levels.declared.Goals as goal

pub loop-row-init : goal.loop-row-init
loop-row-init c = rw c.new-classes.ensures none_plain
