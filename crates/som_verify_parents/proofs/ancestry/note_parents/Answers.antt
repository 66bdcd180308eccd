use Rattle.std.proofs.Common.{arith}
use Rattle.som_model_laws.proofs.Listed.{mem_at, parent_more}
use Rattle.som_verify_parents.proofs.ancestry.note_parents.Goals as goal

pub item-requires : goal.item-requires
item-requires c = let h = c.requires.row _ (mem_at c.args.row.now c.loop-parent.parent-index 0 c.loop-parent-test.true) in omega (arith, h)

pub note_all-requires-clause-others : goal.note_all-requires-clause-others
note_all-requires-clause-others c = λ a m.
    let h = c.requires.row _ (mem_at c.args.row.now c.loop-parent.parent-index 0 c.loop-parent-test.true) in
    let k = c.requires.low _ a (rw c.item.ensures at m) in
    omega (arith, h, k, c.loop-parent.invariant.long)

pub loop-parent-preserved : goal.loop-parent-preserved
loop-parent-preserved c = record {
  list = parent_more c.args.known.now c.args.row.now c.loop-parent.list c.note_all.new.list c.item.result.now _ c.loop-parent.parent-index c.loop-parent-test.true
      c.item.ensures c.in_ok-note_all.ensures.list c.loop-parent.invariant.list;
  marks = c.in_ok-note_all.ensures.marks;
  long = omega (arith, c.loop-parent.invariant.long);
}
