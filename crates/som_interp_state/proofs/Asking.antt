-- How many classes are asked for a name.
use Rattle.std.proofs.Common.{◌≡◌, ◌≤◌, ◌+◌, ℕ, suc, Bool, true, false, if◌then◌else◌, List, [], ◌∷◌, length, arith}
use Rattle.som_model.specs.declared.key.ClassKey.{ClassKey}
use Rattle.som_model.specs.Class.{Class}
use Rattle.som_model.specs.Classes.{ancestors}
use Rattle.som_model.specs.Owner.{introduces}
use Rattle.som_interp_state.specs.Asked.{HaveAncestors, asked_for}

-- no more than there are
asked_most : (f : ClassKey → Bool) (ks : List ClassKey) → asked_for f ks ≤ length ks
asked_most f [] = omega arith
asked_most f (k ∷ ks) = let rest = asked_most f ks in by (f k) rest
  where
    by : (b : Bool) → asked_for f ks ≤ length ks → (if b then 1 else suc (asked_for f ks)) ≤ suc (length ks)
    by true rest = omega arith
    by false rest = omega (arith, rest)

-- a search in a class that is made asks no more classes than one that is made has ancestors
pub asked_within : (cs : List Class) (made : ClassKey → Bool) (n : ℕ) → HaveAncestors cs made n → (name : List ℕ) (k : ClassKey) → made k ≡ true → (a b : ℕ) → b ≡ a + asked_for (introduces cs name) (ancestors cs k) → b ≤ a + n
asked_within cs made n have name k m a b e =
    let most = asked_most (introduces cs name) (ancestors cs k) in
    let within = have k m in
    omega (arith, most, within, e)
