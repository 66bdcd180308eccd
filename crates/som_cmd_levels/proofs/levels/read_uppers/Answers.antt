use Rattle.std.proofs.Common.{ℕ, ◌+◌, ◌<◌, ◌≡◌, ◌++◌, ◌∷◌, [], false, length, length-append, subst, arith}
use Rattle.som_towerimage.specs.declared.level.Level.{Level}
use Rattle.som_cmd_levels.specs.Levels.{IsLevelAt}
use Rattle.som_cmd_levels.proofs.Lists.{one_more}
use Rattle.som_cmd_levels.proofs.Stacking.{read_more}
use Rattle.som_cmd_levels.proofs.levels.read_uppers.Goals as goal

pub loop-place-preserved : goal.loop-place-preserved
loop-place-preserved c =
    let within : c.loop-place.place < length c.args.images.now = omega (arith, c.requires) in
    let l : Level = c.in_ok-read_level.field-0 in
    let ls = c.loop-place.uppers in
    let pushed : c.push.new.self ≡ ls ++ l ∷ [] = c.in_ok-push.ensures.ok in
    let at : c.loop-place.place + 1 ≡ 1 + length ls = (let long = c.loop-place.invariant.long in omega (arith, long)) in
    rw pushed (record {
      read = read_more c.args.names.now c.args.images.now c.loop-place.place c.index-names-place.result c.index-images-place.result c.loop-place-test.true c.index-names-place.is within c.index-images-place.is
          ls l c.loop-place.invariant.read c.in_ok-read_level.ensures.follows;
      long = let n = length-append ls (l ∷ []) in omega (arith, n, c.loop-place.invariant.long);
      uppers = one_more (λ (i : ℕ) (x : Level). IsLevelAt (1 + i) false x) ls l c.loop-place.invariant.uppers (subst (λ (n : ℕ). IsLevelAt n false l) at c.in_ok-read_level.ensures.at);
    })
