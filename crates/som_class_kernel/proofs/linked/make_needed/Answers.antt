use Rattle.std.proofs.Common.{ℕ, List, subst, take}
use Rattle.som_class_table.specs.Making.{AreToMake}
use Rattle.som_class_loaded.specs.Made.{AreMarked}
use Rattle.som_class_loaded.proofs.Order.{can_be_made, only_reached}
use Rattle.som_class_kernel.proofs.linked.make_needed.Goals as goal

pub make_all-requires-clause-order : goal.make_all-requires-clause-order
make_all-requires-clause-order c =
    let k = c.args.closure.now in
    let made = c.args.parts.now.made.items in
    let order = c.in_ok-order.order in
    let a = subst (λ (z : List _). AreToMake k z c.args.class order) c.as_slice.ensures.value c.in_ok-order.ensures in
    rw (c.classes.ensures.value, c.as_slice-2.ensures) (can_be_made k made c.args.class order a)

pub returns-clause-only : goal.returns-clause-only
returns-clause-only c =
    let k = c.args.closure.now in
    let made = c.args.parts.now.made.items in
    let order = c.in_ok-order.order in
    let new = c.make_all.new.self.made.items in
    let a = subst (λ (z : List _). AreToMake k z c.args.class order) c.as_slice.ensures.value c.in_ok-order.ensures in
    let first = c.make_all.ensures.first in
    only_reached k made c.args.class order a new first.0 (subst (λ (z : List ℕ). AreMarked made new (take first.0 z)) c.as_slice-2.ensures first.1)
