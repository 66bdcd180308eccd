use Rattle.std.proofs.Common.{arith, rules, subst, List}
use Rattle.som_model.specs.declared.key.ClassKey.{ClassKey}
use Rattle.som_model.specs.Lists.{Mem}
use Rattle.som_compat.specs.Views.{classes_of}
use Rattle.som_compat.proofs.Placed.{mem_at}
use Rattle.som_compat.proofs.Filled.{row_more, low_more}
use Rattle.som_compat.proofs.rows.row_of.Goals as goal

pub known_place-requires : goal.known_place-requires
known_place-requires c =
    let items = c.as_slice-parent-items.ensures in
    c.requires.parents c.parent-item.result (subst (λ (z : List ClassKey). Mem c.parent-item.result z) items
    (mem_at c.as_slice-parent-items.result.now c.loop-parent.parent-index c.parent-item.result c.loop-parent-test.true c.parent-item.is))

pub loop-parent-preserved : goal.loop-parent-preserved
loop-parent-preserved c =
    let i = c.loop-parent.invariant in
    let items = c.as_slice-parent-items.ensures in
    let lt = rw items at c.loop-parent-test.true in
    let is = rw items at c.parent-item.is in
    record {
      keys = row_more (classes_of c.args.lookup.now.faces.now) c.loop-parent.numbers c.loop-parent.count c.loop-parent.parent-index c.known_place.result c.args.face.now.parents c.parent-item.result (omega arith) i.at lt is c.known_place.ensures.is i.keys;
      low = low_more (classes_of c.args.lookup.now.faces.now) c.loop-parent.numbers c.loop-parent.count c.known_place.result (omega arith) c.known_place.ensures.within i.low;
      at = omega arith;
      long = search rules;
    }

pub known_place-requires-in-Some : goal.known_place-requires-in-Some
known_place-requires-in-Some c = c.requires.metaclass c.in-Some.key c.in-Some.is
