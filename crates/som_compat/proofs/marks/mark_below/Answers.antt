use Rattle.std.proofs.Common.{◌∙◌, ap, sym, ℕ, List, arith}
use Rattle.std.proofs.lemmas.Grind.{common_steps}
use Rattle.som_compat.specs.Marks.{lists_of, some_marked}
use Rattle.som_compat.proofs.Marking.{row_is}
use Rattle.som_compat.proofs.Below.{AboveSoFar, above_first, above_set, above_kept}
use Rattle.som_compat.proofs.marks.mark_below.Goals as goal
use Rattle.som_compat.proofs.marks.mark_below.Goals.{then-is_any_marked, else-is_any_marked}

pub loop-place-init : goal.loop-place-init
loop-place-init c = let r = above_first (lists_of c.args.rows.now) c.args.top c.args.marks.now c.requires.low (omega arith) c.requires.clear in
    record { sound = r.sound; whole = r.whole; long = grind (arith, common_steps) }

pub loop-place-preserved : goal.loop-place-preserved
loop-place-preserved c =
    let e = c.parents.ensures ∙ row_is c.args.rows.now c.loop-place.place in
    let i = c.loop-place.invariant in
    let so : AboveSoFar (lists_of c.args.rows.now) c.args.top c.loop-place.marks c.loop-place.place = record { sound = i.sound; whole = i.whole } in
    let test = sym (ap (λ (z : List ℕ). some_marked z c.loop-place.marks) e) ∙ sym c.is_any_marked.ensures in
    elim c.if-is_any_marked.branch [
      | then-is_any_marked w ↦ rw w.marks-is (
          let r = above_set (lists_of c.args.rows.now) c.args.top c.loop-place.place c.loop-place.marks c.requires.low (omega arith) (omega (arith, i.long)) (test ∙ w.if-is_any_marked.true) so in
          record { sound = r.sound; whole = r.whole; long = grind (arith, common_steps) })
      | else-is_any_marked w ↦ rw w.marks-is (
          let r = above_kept (lists_of c.args.rows.now) c.args.top c.loop-place.place c.loop-place.marks c.requires.low (omega arith) (test ∙ w.if-is_any_marked.false) so in
          record { sound = r.sound; whole = r.whole; long = i.long })
    ]
