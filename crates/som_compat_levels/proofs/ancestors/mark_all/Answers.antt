use Rattle.std.proofs.Common.{refl, ◌∙◌, ◌<◌, length, slice_index_or, arith}
use Rattle.std.proofs.lemmas.List.{length-set}
use Rattle.som_compat.proofs.Marking.{mem_at}
use Rattle.som_compat_levels.proofs.Descent.{mark_below, mark_more, none_so_far}
use Rattle.som_compat_levels.proofs.ancestors.mark_all.Goals as goal

pub loop-place-init : goal.loop-place-init
loop-place-init c = record { marked = none_so_far c.args.marks.now c.args.list.now c.args.mark c.requires.fresh; below = λ k. (let l = c.requires.fresh k in omega (arith, l)); long = refl }

pub loop-place-preserved : goal.loop-place-preserved
loop-place-preserved c =
    let i = c.loop-place.invariant in
    let within = c.requires.within _ (mem_at c.args.list.now c.loop-place.place-index 0 c.loop-place-test.true) in
    let lt : slice_index_or c.args.list.now c.loop-place.place-index 0 < length c.loop-place.marks = omega (arith, within, i.long) in
    rw c.set_number.ensures (record {
      marked = mark_more c.loop-place.marks c.args.list.now c.args.mark c.loop-place.place-index c.loop-place-test.true lt i.marked;
      below = mark_below c.loop-place.marks c.args.mark _ lt i.below;
      long = length-set c.loop-place.marks _ c.args.mark ∙ i.long;
    })

pub set_number-requires : goal.set_number-requires
set_number-requires c =
    let within = c.requires.within _ (mem_at c.args.list.now c.loop-place.place-index 0 c.loop-place-test.true) in
    omega (arith, within, c.loop-place.invariant.long)
