use Rattle.std.proofs.Common.{◌∙◌, ap, refl, arith}
use Rattle.som_compat.specs.Told.{told}
use Rattle.som_compat_levels.specs.Tables.{classes_in}
use Rattle.som_compat_levels.specs.Told.{level_of}
use Rattle.som_compat_levels.proofs.Keyed.{long_classes, module_here}
use Rattle.som_compat_levels.proofs.Leveling.{class_passes, class_stops}
use Rattle.som_compat_levels.proofs.levels.all_keep.Goals as goal

pub returns-in-Err : goal.returns-in-Err
returns-in-Err c =
    let O = classes_in c.args.old.now in
    let N = classes_in c.args.new.now in
    let ps = c.args.old.now.classes.now in
    let i = c.loop-place.place in
    let long = long_classes ps in
    let level_at = c.level_of.ensures ∙ ap level_of (module_here ps i c.index-old-place.result c.loop-place-test.true) in
    class_stops O N i c.level_of.result (omega (arith, long, c.loop-place-test.true)) level_at (told c.in-Err.breach) c.in-Err.ensures.tells ∙ c.loop-place.invariant.same

pub loop-place-preserved : goal.loop-place-preserved
loop-place-preserved c =
    let O = classes_in c.args.old.now in
    let N = classes_in c.args.new.now in
    let ps = c.args.old.now.classes.now in
    let i = c.loop-place.place in
    let long = long_classes ps in
    let so = c.loop-place.invariant in
    record {
      same = class_passes O N i _ (omega (arith, long, c.loop-place-test.true)) refl c.in-Ok.ensures.tells ∙ so.same;
      paired = c.in-Ok.ensures.pairs;
      begun = c.in-Ok.ensures.orders;
      marks = c.in-Ok.ensures.marks ∙ so.marks;
      fresh = λ k. (let l = c.in-Ok.ensures.fresh k in omega (arith, l));
      below = c.in-Ok.ensures.below ∙ so.below;
    }
