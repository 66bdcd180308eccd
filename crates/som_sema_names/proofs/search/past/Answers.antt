use Rattle.std.proofs.Common.{◌≤◌, ◌+◌, slice_index_or, arith}
use Rattle.som_model_laws.proofs.Listed.{mem_at}
use Rattle.som_sema_names.proofs.Marks.{past_end, past_next}
use Rattle.som_sema_names.proofs.search.past.Goals as goal

pub next-requires : goal.next-requires
next-requires c = c.requires _ (mem_at c.args.list.now c.loop-place.place-index 0 c.loop-place-test.true)

pub loop-place-preserved : goal.loop-place-preserved
loop-place-preserved c =
    let over : slice_index_or c.args.list.now c.loop-place.place-index 0 + 1 ≤ c.greater-past.result = omega (arith, c.greater-past.ensures.other, c.next.ensures) in
    past_next c.args.list.now c.loop-place.place-index c.loop-place.past c.greater-past.result c.loop-place-test.true c.greater-past.ensures.one over c.loop-place.invariant

pub returns : goal.returns
returns c = past_end c.args.list.now c.loop-place.place-index c.loop-place.past c.loop-place-test.false c.loop-place.invariant
