-- The cells of an object keep the values of its variables.
use Rattle.std.proofs.Common.{◌≡◌, ◌≢◌, ℕ, zero, suc, ◌==◌, inl, inr, Bool, true, false, ◌&&◌, if◌then◌else◌, List, [], ◌∷◌, ◌++◌, Some, slice_get, slice_set, refl, sym, ap, subst, ◌∙◌}
use Rattle.std.proofs.lemmas.Bool.{cases_eq}
use Rattle.som_model.specs.declared.key.ClassKey.{ClassKey}
use Rattle.som_model.specs.Keys.{same_key}
use Rattle.som_semantics.specs.State.{Value, Variables, put}
use Rattle.som_model.proofs.KeyLaws.{both, exact_numbers, exact_keys}
use Rattle.som_objects.specs.declared.cell.Cell.{Cell}
use Rattle.som_values.specs.Shown.{Showing, shown, IsSeen, showing}
use Rattle.som_values.specs.Variables.{Places, AreDisjoint, AreHeld}
use Rattle.som_values.proofs.Places.{shown_later}

pub get_set : {X : Type 0} (xs : List X) (i : ℕ) (x y : X) → slice_get xs i ≡ Some x → slice_get (slice_set xs i y) i ≡ Some y
get_set [] zero x y e = absurd (let f : ⊥ = cc in f)
get_set [] (suc i) x y e = absurd (let f : ⊥ = cc in f)
get_set (z ∷ xs) zero x y e = refl
get_set (z ∷ xs) (suc i) x y e = get_set xs i x y e

pub get_else : {X : Type 0} (xs : List X) (i j : ℕ) (y : X) → j ≢ i → slice_get (slice_set xs i y) j ≡ slice_get xs j
get_else [] i j y ne = refl
get_else (x ∷ xs) zero zero y ne = absurd (ne refl)
get_else (x ∷ xs) zero (suc j) y ne = refl
get_else (x ∷ xs) (suc i) zero y ne = refl
get_else (x ∷ xs) (suc i) (suc j) y ne = get_else xs i j y (λ e. ne (ap suc e))

-- what one variable's value is where that of a variable was changed
put_same : (k c : ClassKey) (n m : ℕ) (v : Value) (vars : Variables) → c ≡ k → m ≡ n → put k n v vars c m ≡ v
put_same k c n m v vars e f =
    let g : same_key c k ≡ true = subst (λ x. same_key c x ≡ true) e (exact_keys.one c) in
    let h : (m == n) ≡ true = subst (λ x. (m == x) ≡ true) f (exact_numbers.one m) in
    ap (λ b. if b && m == n then v else vars c m) g ∙ ap (λ b. if b then v else vars c m) h

chosen : (b : Bool) (v w : Value) → (b ≡ true → ⊥) → (if b then v else w) ≡ w
chosen true v w f = absurd (f refl)
chosen false v w f = refl

pub put_else : (k c : ClassKey) (n m : ℕ) (v : Value) (vars : Variables) → ((c ≡ k) → (m ≡ n) → ⊥) → put k n v vars c m ≡ vars c m
put_else k c n m v vars f = chosen (same_key c k && m == n) v (vars c m) (λ e. let b = both (same_key c k) (m == n) e in f (exact_keys.two c k b.0) (exact_numbers.two m n b.1))

-- a variable gets a value in its cell
pub held_written : (s : Showing) (place : Places) (cs : List Cell) (vars : Variables) (k : ClassKey) (n p : ℕ) (cell : Cell)
    → AreDisjoint place → place k n ≡ Some p → AreHeld s place cs vars → AreHeld s place (slice_set cs p cell) (put k n (shown s cell) vars)
held_written s place cs vars k n p cell apart at held c m q there = elim (cases_eq q p) [
  | inl same ↦ (let there' : place c m ≡ Some p = subst (λ i. place c m ≡ Some i) same there in
      let old = held k n p at in
      let one = apart k c n m p at there' in
      (cell, subst (λ i. slice_get (slice_set cs p cell) i ≡ Some cell) (sym same) (get_set cs p old.0 cell old.1), put_same k c n m (shown s cell) vars one.0 one.1))
  | inr ne ↦ (let old = held c m q there in
      (old.0, get_else cs p q cell ne ∙ old.1, put_else k c n m (shown s cell) vars (λ e f. ne (let g : Some q ≡ Some p = sym there ∙ subst (λ x. place x m ≡ Some p) (sym e) (subst (λ i. place k i ≡ Some p) (sym f) at) in cc)) ∙ old.2))
]

-- the values stay where more objects are made
pub held_later : (keys : List ClassKey) (xs ys : List ℕ) (place : Places) (cs : List Cell) (vars : Variables)
    → ((p : ℕ) (c : Cell) → slice_get cs p ≡ Some c → IsSeen (showing keys xs) c) → AreHeld (showing keys xs) place cs vars → AreHeld (showing keys (xs ++ ys)) place cs vars
held_later keys xs ys place cs vars seen held k n p at =
    let old = held k n p at in
    (old.0, old.1, old.2 ∙ sym (shown_later keys xs ys old.0 (seen p old.0 old.1)))
