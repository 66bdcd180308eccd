use Rattle.std.proofs.Common.{◌∙◌, ap, arith, slice_index_or, []}
use Rattle.som_model_laws.proofs.Listed.{parent_more}
use Rattle.som_class_ids.specs.Positions.{lists}
use Rattle.som_class_ids.proofs.Items.{item_at, item_mem}
use Rattle.som_class_ids.proofs.position.note_parents.Goals as goal

pub ancestors_of-requires : goal.ancestors_of-requires
ancestors_of-requires c = c.requires.parents c.parent-item.result (item_mem c.args.parents.now c.loop-parent.parent-index c.parent-item.result c.loop-parent-test.true c.parent-item.is)

pub note_all-requires-clause-others : goal.note_all-requires-clause-others
note_all-requires-clause-others c = λ a m.
    let h = c.requires.parents c.parent-item.result (item_mem c.args.parents.now c.loop-parent.parent-index c.parent-item.result c.loop-parent-test.true c.parent-item.is) in
    let k = c.requires.low c.parent-item.result a (rw c.ancestors_of.ensures at m) in
    omega (arith, h, k, c.loop-parent.invariant.long, c.requires.long)

pub loop-parent-preserved : goal.loop-parent-preserved
loop-parent-preserved c =
    let at = item_at c.args.parents.now c.loop-parent.parent-index c.parent-item.result 0 c.loop-parent-test.true c.parent-item.is in
    record {
      list = parent_more (lists c.args.known.now) c.args.parents.now c.loop-parent.list c.note_all.new.list c.ancestors_of.result.now _ c.loop-parent.parent-index c.loop-parent-test.true
          (c.ancestors_of.ensures ∙ ap (λ q. slice_index_or (lists c.args.known.now) q []) at) c.in_ok-note_all.ensures.list c.loop-parent.invariant.list;
      marks = c.in_ok-note_all.ensures.marks;
      long = omega (arith, c.loop-parent.invariant.long);
    }
