-- Tests that hold of both of two, and of each of a list.
use Rattle.std.proofs.Common.{◌≡◌, Bool, true, false, ◌&&◌, true≢false, List, [], ◌∷◌, map, refl, sym}
use Rattle.std.specs.List.{list_all, AllByRecursion}
use Rattle.som_model.proofs.KeyLaws.{both}

pub and_true : (a b : Bool) → a ≡ true → b ≡ true → (a && b) ≡ true
and_true true b e f = f
and_true false b e f = absurd (true≢false (sym e))

-- the test of each, asked of the values
pub each_found : {A : Type 0} (test : A → Bool) (xs : List A) → list_all (λ (b : Bool). b) (map test xs) ≡ true → list_all test xs ≡ true
each_found test [] h = refl
each_found test (x ∷ xs) h =
    let b = both (test x) (list_all (λ (b : Bool). b) (map test xs)) h in
    and_true (test x) (list_all test xs) b.0 (each_found test xs b.1)

pub all_if : {A : Type 0} (Ready : A → Type 0) (test : A → Bool) → ((x : A) → Ready x → test x ≡ true) → (xs : List A) → AllByRecursion Ready xs → list_all (λ (b : Bool). b) (map test xs) ≡ true
all_if Ready test f [] h = refl
all_if Ready test f (x ∷ xs) h = and_true (test x) (list_all (λ (b : Bool). b) (map test xs)) (f x h.0) (all_if Ready test f xs h.1)
