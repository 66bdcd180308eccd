use Rattle.std.proofs.Common.{◌<◌, inl, inr, length, slice_index_or, arith}
use Rattle.std.proofs.lemmas.Grind.{common_steps}
use Rattle.som_compat.proofs.Marking.{mem_at, take_more, marked_set}
use Rattle.som_compat.proofs.marks.mark_all.Goals as goal

pub bounds-marks-p : goal.bounds-marks-p
bounds-marks-p c = let h = c.requires _ (mem_at c.args.row.now c.loop-p.p-index 0 c.loop-p-test.true) in omega (arith, h)

pub loop-p-preserved : goal.loop-p-preserved
loop-p-preserved c =
    let h = c.requires _ (mem_at c.args.row.now c.loop-p.p-index 0 c.loop-p-test.true) in
    let lt : slice_index_or c.args.row.now c.loop-p.p-index 0 < length c.loop-p.marks = omega (arith, h) in
    record {
      marked = λ k.
          let was = c.loop-p.invariant.marked k in
          let set = marked_set c.loop-p.marks (slice_index_or c.args.row.now c.loop-p.p-index 0) k lt in
          let more = take_more c.args.row.now c.loop-p.p-index 0 k c.loop-p-test.true in (
            λ m. elim (set.0 m) [ inl n ↦ (elim (was.0 n) [ inl o ↦ inl o | inr o ↦ inr (more.1 (inl o)) ]) | inr e ↦ inr (more.1 (inr e)) ],
            λ m. set.1 (elim m [ inl o ↦ inl (was.1 (inl o)) | inr o ↦ (elim (more.0 o) [ inl n ↦ inl (was.1 (inr n)) | inr e ↦ inr e ]) ]),
          );
      long = grind (arith, common_steps);
    }
