use Rattle.std.proofs.Common.{length, slice_index_or, true, arith, ap, ◌∙◌}
use Rattle.std.proofs.lemmas.List.{length-set}
use Rattle.som_model_laws.proofs.Listed.{mem_at}
use Rattle.som_sema_names.proofs.Marks.{marks_next}
use Rattle.som_sema_names.proofs.search.mark_all.Goals as goal

pub mark-requires : goal.mark-requires
mark-requires c =
    let h = c.requires.low _ (mem_at c.args.list.now c.loop-place.place-index 0 c.loop-place-test.true) in
    omega (arith, h, c.loop-place.invariant.long)

pub loop-place-preserved : goal.loop-place-preserved
loop-place-preserved c =
    let list = c.args.list.now in
    let i = c.loop-place.place-index in
    let h = c.requires.low _ (mem_at list i 0 c.loop-place-test.true) in
    record {
      long = ap length c.mark.ensures ∙ length-set c.loop-place.marks (slice_index_or list i 0) true ∙ c.loop-place.invariant.long;
      by = marks_next list i c.loop-place.marks c.mark.new.marks c.loop-place-test.true (omega (arith, h, c.loop-place.invariant.long)) c.mark.ensures c.loop-place.invariant.by;
    }
