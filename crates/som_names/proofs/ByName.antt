-- What the index finds is the definition's method of a name, where what was added is what the hierarchy has.
use Rattle.std.proofs.Common.{◌≡◌, ℕ, Bool, true, false, if◌then◌else◌, List, [], ◌∷◌, map, Option, Some, None, is_some, refl, sym, ap, ◌∙◌, true≢false}
use Rattle.std.specs.Prelude.{option_and_then}
use Rattle.std.specs.Option.{option_map}
use Rattle.std.specs.List.{All}
use Rattle.std.proofs.lemmas.List.Elements.{All-head, All-tail}
use Rattle.som_model.specs.Lists.{find, first_some, or_else}
use Rattle.som_model.specs.Hierarchy.{Hierarchy}
use Rattle.som_model.specs.Ancestors.{anc}
use Rattle.som_model.specs.Resolution.{byname}
use Rattle.som_names.specs.declared.named.Named.{Named}
use Rattle.som_names.specs.Index.{ancestors_at, own_token, found}

-- the first of these classes that introduces the name
abbrev pub introducer : List (ℕ × Named) → List ℕ → List ℕ → Option ℕ
introducer index name classes = find (λ a. is_some (own_token index name a)) classes

found_step : {B : Type 0} (f : ℕ → Option B) (x : ℕ) (o rest : Option B) (r : Option ℕ) → f x ≡ o → rest ≡ option_and_then f r → or_else o rest ≡ option_and_then f (if is_some o then Some x else r)
found_step f x None rest r e is = is
found_step f x (Some y) rest r e is = sym e

-- the token that is found is the one of that class
found_from : {B : Type 0} (f : ℕ → Option B) (xs : List ℕ) → first_some f xs ≡ option_and_then f (find (λ a. is_some (f a)) xs)
found_from f [] = refl
found_from f (x ∷ xs) = found_step f x (f x) (first_some f xs) (find (λ a. is_some (f a)) xs) refl (found_from f xs)

pub found_is : (index : List (ℕ × Named)) (c : ℕ) (name : List ℕ) → found index c name ≡ option_and_then (own_token index name) (introducer index name (ancestors_at index c))
found_is index c name = found_from (own_token index name) (ancestors_at index c)

key_step : {K : Type 0} (key : ℕ → K) (b d : Bool) (x : ℕ) (o : Option ℕ) (q : Option K) → b ≡ d → option_map key o ≡ q → option_map key (if b then Some x else o) ≡ (if d then Some (key x) else q)
key_step key true true x o q e is = refl
key_step key false false x o q e is = is
key_step key true false x o q e is = absurd (true≢false e)
key_step key false true x o q e is = absurd (true≢false (sym e))

find_keys : {K : Type 0} (key : ℕ → K) (test : ℕ → Bool) (tests : K → Bool) (xs : List ℕ) → All (λ a. test a ≡ tests (key a)) xs → option_map key (find test xs) ≡ find tests (map key xs)
find_keys key test tests [] all = refl
find_keys key test tests (x ∷ xs) all =
    key_step key (test x) (tests (key x)) x (find test xs) (find tests (map key xs)) (All-head (λ a. test a ≡ tests (key a)) x xs all) (find_keys key test tests xs (All-tail (λ a. test a ≡ tests (key a)) x xs all))

-- and that class is the definition's, where the ancestors that were added are the hierarchy's, and each has just the names that it introduces
pub introducer_is : {K : Type 0} (h : Hierarchy K) (introduces : K → Bool) (key : ℕ → K) (index : List (ℕ × Named)) (c : ℕ) (name : List ℕ) → map key (ancestors_at index c) ≡ anc h (key c)
    → All (λ a. is_some (own_token index name a) ≡ introduces (key a)) (ancestors_at index c) → option_map key (introducer index name (ancestors_at index c)) ≡ byname h introduces (key c)
introducer_is h introduces key index c name ancestors own = find_keys key (λ a. is_some (own_token index name a)) introduces (ancestors_at index c) own ∙ ap (find introduces) ancestors
