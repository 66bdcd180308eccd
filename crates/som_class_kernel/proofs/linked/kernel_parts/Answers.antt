use Rattle.std.proofs.Common.{subst}
use Rattle.som_class_table.specs.Loaded.{AreLoaded}
use Rattle.som_class_load_order.proofs.FirstFour.{kernel_needs}
use Rattle.som_class_loaded.proofs.Order.{four_can, four_closed, four_marked}
use Rattle.som_class_kernel.proofs.linked.kernel_parts.Goals as goal

pub make_all-requires-clause-order : goal.make_all-requires-clause-order
make_all-requires-clause-order c =
    let loaded = subst AreLoaded c.classes-classes.ensures.value c.count-count.ensures.loaded in
    rw (c.classes-classes.ensures.value, c.new.ensures, c.new-2.ensures, c.new-3.ensures, c.new-4.ensures) (four_can c.args.closure.now loaded c.in_ok-parts.parts.made.items c.in_ok-parts.ensures.none)

pub returns-clause-closed : goal.returns-clause-closed
returns-clause-closed c =
    let k = c.args.closure.now in
    let loaded = subst AreLoaded c.classes-classes.ensures.value c.count-count.ensures.loaded in
    let so = rw (c.new.ensures, c.new-2.ensures, c.new-3.ensures, c.new-4.ensures) at c.in_ok-make_all.ensures.made in
    four_closed k c.make_all.new.self.made.items (kernel_needs k loaded) (four_marked c.in_ok-parts.parts.made.items c.make_all.new.self.made.items c.in_ok-parts.ensures.none so)
