use Rattle.std.proofs.Common.{◌∙◌, ap, List, ℕ, ◌==◌, ◌||◌, arith}
use Rattle.std.proofs.lemmas.List.{length-set}
use Rattle.som_compat.specs.Marks.{some_marked}
use Rattle.som_compat_levels.proofs.KeptMetaclasses.{below_more}
use Rattle.som_compat_levels.proofs.metaclasses.mark_below.Goals as goal

pub loop-place-preserved : goal.loop-place-preserved
loop-place-preserved c =
    let i = c.loop-place.invariant in
    record {
      below = below_more c.args.rows.now c.args.top c.loop-place.place c.loop-place.below c.is_below.result c.requires.low (omega (arith, i.long, c.requires.long, c.loop-place-test.true)) i.below
          (c.is_below.ensures ∙ ap (λ (z : List ℕ). (c.loop-place.place == c.args.top) || some_marked z c.loop-place.below) c.item.ensures);
      long = length-set c.loop-place.below c.loop-place.place c.is_below.result ∙ i.long;
    }
