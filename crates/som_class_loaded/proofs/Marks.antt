-- Marks and lists by number, one of them set.
use Rattle.std.proofs.Common.{◌≡◌, ◌≢◌, ◌↔◌, ◌⊎◌, ℕ, zero, suc, ◌<◌, inl, inr, Bool, true, false, List, [], ◌∷◌, length, replicate, slice_index_or, slice_set, refl, sym, ap, arith, true≢false}
use Rattle.som_class_table.specs.Making.{IsMarked}
use Rattle.som_class_loaded.specs.Made.{AreMarked}

pub marked_set : (marks : List Bool) (p k : ℕ) → p < length marks → IsMarked (slice_set marks p true) k ↔ (IsMarked marks k ⊎ (k ≡ p))
marked_set [] p k lt = absurd (omega arith)
marked_set (m ∷ ms) zero zero lt = (λ h. inr refl, λ h. refl)
marked_set (m ∷ ms) zero (suc k) lt = (λ h. inl h, λ h. elim h [ inl n ↦ n | inr e ↦ absurd (omega arith) ])
marked_set (m ∷ ms) (suc p) zero lt = (λ h. inl h, λ h. elim h [ inl n ↦ n | inr e ↦ absurd (omega arith) ])
marked_set (m ∷ ms) (suc p) (suc k) lt =
    let more = marked_set ms p k (omega arith) in (
      (λ h. elim (more.0 h) [ inl n ↦ inl n | inr e ↦ inr (ap suc e) ]),
      (λ h. elim h [ inl n ↦ more.1 (inl n) | inr e ↦ more.1 (inr (omega arith)) ]),
    )

-- so the classes made are those before and this one
pub marked_one : (old : List Bool) (n : ℕ) → n < length old → AreMarked old (slice_set old n true) (n ∷ [])
marked_one old n lt m =
    let set = marked_set old n m lt in (
      (λ h. elim (set.0 h) [ inl o ↦ inl o | inr e ↦ inr (inl e) ]),
      (λ h. elim h [ inl o ↦ set.1 (inl o) | inr o ↦ elim o [ inl e ↦ set.1 (inr e) | inr z ↦ absurd z ] ]),
    )

pub none_marked : (n k : ℕ) → IsMarked (replicate n false) k → ⊥
none_marked zero k m = true≢false (sym m)
none_marked (suc n) zero m = true≢false (sym m)
none_marked (suc n) (suc k) m = none_marked n k m

pub within_marks : (marks : List Bool) (k : ℕ) → IsMarked marks k → k < length marks
within_marks [] k m = absurd (true≢false (sym m))
within_marks (b ∷ bs) zero m = omega arith
within_marks (b ∷ bs) (suc k) m = omega (arith, within_marks bs k m)

pub long_set : {A : Type 0} (xs : List A) (i : ℕ) (x : A) → length (slice_set xs i x) ≡ length xs
long_set [] i x = refl
long_set (y ∷ ys) zero x = refl
long_set (y ∷ ys) (suc i) x = ap suc (long_set ys i x)

pub set_there : {A : Type 0} (xs : List A) (i : ℕ) (x d : A) → i < length xs → slice_index_or (slice_set xs i x) i d ≡ x
set_there [] i x d lt = absurd (omega arith)
set_there (y ∷ ys) zero x d lt = refl
set_there (y ∷ ys) (suc i) x d lt = set_there ys i x d (omega arith)

pub set_other : {A : Type 0} (xs : List A) (i j : ℕ) (x d : A) → j ≢ i → slice_index_or (slice_set xs i x) j d ≡ slice_index_or xs j d
set_other [] i j x d ne = refl
set_other (y ∷ ys) zero zero x d ne = absurd (ne refl)
set_other (y ∷ ys) zero (suc j) x d ne = refl
set_other (y ∷ ys) (suc i) zero x d ne = refl
set_other (y ∷ ys) (suc i) (suc j) x d ne = set_other ys i j x d (λ e. ne (ap suc e))
