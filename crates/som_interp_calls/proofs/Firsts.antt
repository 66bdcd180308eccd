-- The first parent that descends from the owner of a method.
use Rattle.std.proofs.Common.{◌≡◌, ◌+◌, ◌<◌, ◌≤◌, ℕ, zero, suc, true, false, if◌then◌else◌, List, [], ◌∷◌, length, map, drop, Some, slice_get, slice_index_or, refl, sym, ap, ◌∙◌, arith}
use Rattle.std.specs.List.{All}
use Rattle.std.proofs.lemmas.List.{drop_all, length-map}
use Rattle.som_model.specs.declared.key.ClassKey.{ClassKey}
use Rattle.som_model.specs.declared.key.MethodRef.{MethodRef}
use Rattle.som_semantics.specs.World.{World}
use Rattle.som_semantics.specs.State.{Value}
use Rattle.som_semantics.specs.Calls.{Here}
use Rattle.som_machine_laws.specs.Frames.{ForParent, Waiting}
use Rattle.som_machine_laws.specs.Passed.{passes_parent}
use Rattle.som_machine_laws.specs.Step.{Step, makes, next_parent}
use Rattle.som_values.specs.Shown.{IsNumbered, key_of}
use Rattle.som_interp_calls.specs.Parents.{AreCalls, IsFirst, IsNone, parents_from}

pub get_map : {A B : Type 0} (f : A → B) (xs : List A) (i : ℕ) (d : A) → i < length xs → slice_get (map f xs) i ≡ Some (f (slice_index_or xs i d))
get_map f [] i d lt = absurd (let x : ⊥ = omega (arith, lt) in x)
get_map f (x ∷ xs) zero d lt = refl
get_map f (x ∷ xs) (suc i) d lt = get_map f xs i d (omega (arith, lt))

drop_get : {A : Type 0} (xs : List A) (i : ℕ) (x : A) → slice_get xs i ≡ Some x → drop i xs ≡ x ∷ drop (suc i) xs
drop_get [] zero x e = absurd cc
drop_get [] (suc i) x e = absurd cc
drop_get (y ∷ []) zero x e = let d : y ≡ x = cc in ap (λ z. z ∷ []) d
drop_get (y ∷ z ∷ ys) zero x e = let d : y ≡ x = cc in ap (λ u. u ∷ z ∷ ys) d
drop_get (y ∷ ys) (suc i) x e = drop_get ys i x e

module _ (ks : List ClassKey) (w : World) (class owner from : ℕ) (ns : List ℕ) (are : map (key_of ks) ns ≡ w.parents (key_of ks class)) where
  abbrev ps : List ClassKey
  ps = w.parents (key_of ks class)

  -- the calls from a place on
  abbrev pub from_place : ℕ → ℕ → Here → MethodRef → List Value → List Waiting → Step
  from_place i levels here r args ks' = next_parent w levels here (parents_from ks w class owner from i) r args ks'

  at : (i d : ℕ) → i < length ns → slice_get ps i ≡ Some (key_of ks (slice_index_or ns i d))
  at i d lt = ap (λ l. slice_get l i) (sym are) ∙ get_map (key_of ks) ns i d lt

  after : (i d : ℕ) → i < length ns → drop i ps ≡ key_of ks (slice_index_or ns i d) ∷ drop (i + 1) ps
  after i d lt = drop_get ps i (key_of ks (slice_index_or ns i d)) (at i d lt) ∙ (let e : suc i ≡ i + 1 = omega arith in ap (λ n. key_of ks (slice_index_or ns i d) ∷ drop n ps) e)

  -- a parent that doesn't descend is passed
  pub passed_over : (i d : ℕ) → i < length ns → w.is_a (key_of ks (slice_index_or ns i d)) (key_of ks owner) ≡ false → AreCalls ks w class owner from (from_place i) → AreCalls ks w class owner from (from_place (i + 1))
  passed_over i d lt differs so levels here r args ks' e =
      so levels here r args ks' e ∙ ap (λ l. next_parent w levels here l r args ks') (after i d lt)
      ∙ ap (λ b. if b then passes_parent w (makes levels (ForParent levels here (drop (i + 1) ps) r args ∷ ks')) here (key_of ks (slice_index_or ns i d)) r args else next_parent w levels here (drop (i + 1) ps) r args ks')
      (ap (w.is_a (key_of ks (slice_index_or ns i d))) e ∙ differs)

  -- one that does is the first
  pub found_first : (i d : ℕ) → i < length ns → All (IsNumbered ks) ns → w.is_a (key_of ks (slice_index_or ns i d)) (key_of ks owner) ≡ true → AreCalls ks w class owner from (from_place i) → IsFirst ks w class owner from (i, slice_index_or ns i d)
  found_first i d lt all descends so = record {
    numbered = all i d lt;
    there = at i d lt;
    calls = λ levels here r args ks' e.
        so levels here r args ks' e ∙ ap (λ l. next_parent w levels here l r args ks') (after i d lt)
        ∙ ap (λ b. if b then passes_parent w (makes levels (ForParent levels here (drop (i + 1) ps) r args ∷ ks')) here (key_of ks (slice_index_or ns i d)) r args else next_parent w levels here (drop (i + 1) ps) r args ks')
        (ap (w.is_a (key_of ks (slice_index_or ns i d))) e ∙ descends);
  }

  -- none is left
  pub none_found : (i : ℕ) → length ns ≤ i → AreCalls ks w class owner from (from_place i) → IsNone ks w class owner from
  none_found i le so levels here r args ks' e =
      so levels here r args ks' e
      ∙ (let many : length ps ≡ length ns = ap length (sym are) ∙ length-map ns (key_of ks) in let past : length ps ≤ i = omega (arith, le, many) in ap (λ l. next_parent w levels here l r args ks') (drop_all i ps past))

-- an element that is there
pub same_at : {A : Type 0} (xs : List A) (i : ℕ) (d e : A) → i < length xs → slice_index_or xs i d ≡ slice_index_or xs i e
same_at [] i d e lt = absurd (let x : ⊥ = omega (arith, lt) in x)
same_at (x ∷ xs) zero d e lt = refl
same_at (x ∷ xs) (suc i) d e lt = same_at xs i d e (omega (arith, lt))
