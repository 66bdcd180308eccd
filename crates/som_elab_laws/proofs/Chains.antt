-- What several rules tell, one after the other, where the breaches of each have its number.
use Rattle.std.proofs.Common.{◌≡◌, ℕ, zero, suc, ◌+◌, ◌<◌, ◌≤◌, List, [], ◌∷◌, Option, Some, None, refl, ◌∙◌, arith}
use Rattle.som_model.specs.Lists.{or_else}
use Rattle.som_model.specs.Rules.{RuleBreach}

-- the first that tells something
abbrev pub first_told : List (Option RuleBreach) → Option RuleBreach
first_told [] = None
first_told (o ∷ os) = or_else o (first_told os)

-- what the one at a place tells
abbrev pub told_at : List (Option RuleBreach) → ℕ → Option RuleBreach
told_at [] k = None
told_at (o ∷ os) zero = o
told_at (o ∷ os) (suc k) = told_at os k

-- what is told at each place is of the rule of that number, counted from n
abbrev pub AreNumbered : ℕ → List (Option RuleBreach) → Type 0
AreNumbered n [] = Unit {0}
AreNumbered n (o ∷ os) = ((b : RuleBreach) → o ≡ Some b → b.rule ≡ n) × AreNumbered (suc n) os

-- the rule that is told, by its place
pub told_there : (n : ℕ) (os : List (Option RuleBreach)) (b : RuleBreach) → AreNumbered n os → first_told os ≡ Some b → (k : ℕ) × (n + k ≡ b.rule) × (told_at os k ≡ Some b)
told_there n [] b all e = absurd (cc)
told_there n (None ∷ os) b all e = let r = told_there (suc n) os b all.1 e in (suc r.0, omega (arith, r.1), r.2)
told_there n (Some x ∷ os) b all e = (0, omega (arith, all.0 b e), e)

-- the rules of lower numbers tell nothing
pub none_below : (n : ℕ) (os : List (Option RuleBreach)) (b : RuleBreach) → AreNumbered n os → first_told os ≡ Some b → (k : ℕ) → n + k < b.rule → told_at os k ≡ None
none_below n [] b all e k lt = refl
none_below n (None ∷ os) b all e zero lt = refl
none_below n (None ∷ os) b all e (suc k) lt = none_below (suc n) os b all.1 e k (omega (arith, lt))
none_below n (Some x ∷ os) b all e k lt = absurd (let own : b.rule ≡ n = all.0 b e in omega (arith, own, lt))

-- the rules S1 to S12 as they are put together
pub twelve : (r1 r2 r3 r4 r5 r6 r7 r8 r9 r10 r11 r12 : Option RuleBreach)
    → or_else (or_else r1 (or_else r2 (or_else r3 (or_else r4 (or_else r5 (or_else r6 r7)))))) (or_else (or_else r8 r9) (or_else r10 (or_else r11 r12)))
    ≡ first_told (r1 ∷ r2 ∷ r3 ∷ r4 ∷ r5 ∷ r6 ∷ r7 ∷ r8 ∷ r9 ∷ r10 ∷ r11 ∷ r12 ∷ [])
twelve (Some b) r2 r3 r4 r5 r6 r7 r8 r9 r10 r11 r12 = refl
twelve None (Some b) r3 r4 r5 r6 r7 r8 r9 r10 r11 r12 = refl
twelve None None (Some b) r4 r5 r6 r7 r8 r9 r10 r11 r12 = refl
twelve None None None (Some b) r5 r6 r7 r8 r9 r10 r11 r12 = refl
twelve None None None None (Some b) r6 r7 r8 r9 r10 r11 r12 = refl
twelve None None None None None (Some b) r7 r8 r9 r10 r11 r12 = refl
twelve None None None None None None (Some b) r8 r9 r10 r11 r12 = refl
twelve None None None None None None None (Some b) r9 r10 r11 r12 = refl
twelve None None None None None None None None (Some b) r10 r11 r12 = refl
twelve None None None None None None None None None (Some b) r11 r12 = refl
twelve None None None None None None None None None None (Some b) r12 = refl
twelve None None None None None None None None None None None (Some b) = refl
twelve None None None None None None None None None None None None = refl
