use Rattle.std.proofs.Common.{◌≡◌, ◌+◌, ◌∷◌, ◌++◌, [], ap, arith, length, subst, sym, false}
use Rattle.std.proofs.lemmas.List.{length-append}
use Rattle.som_test_towers.specs.Reading.{AreRead, IsRead}
use Rattle.som_test_towers.proofs.Standing.{read_more}
use Rattle.som_test_towers.proofs.tower.read_uppers.Goals as goal

pub loop-place-preserved : goal.loop-place-preserved
loop-place-preserved c =
    let levels = c.loop-place.levels in
    let level = c.in_ok-read_level.field-0 in
    let more : c.push.new.self ≡ levels ++ level ∷ [] = c.in_ok-push.ensures.ok in
    record {
      read = subst AreRead (sym more) (read_more levels level c.loop-place.invariant.read (subst (λ n. IsRead (n + 1) false level) (sym c.loop-place.invariant.many) c.in_ok-read_level.ensures));
      many = (let e = length-append levels (level ∷ []) in let m = c.loop-place.invariant.many in let l = ap length more in omega (arith, e, m, l));
    }
