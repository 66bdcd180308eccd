-- Members and marks.
use Rattle.std.proofs.Common.{◌≡◌, ◌↔◌, ℕ, zero, suc, ◌+◌, ◌-◌, ◌<◌, ◌≤◌, ◌⊎◌, inl, inr, Bool, true, false, List, [], ◌∷◌, None, length, take, replicate, slice_index_or, slice_set, refl, sym, ap, arith, true≢false}
use Rattle.std.proofs.lemmas.Bool.{cases_lt}
use Rattle.som_model.specs.Lists.{Mem}
use Rattle.som_model.specs.Ancestors.{Descends, itself, by_parent}
use Rattle.som_model_laws.specs.Rows.{rows_of}
use Rattle.som_compat.specs.declared.rows.Row.{Row}
use Rattle.som_compat.specs.Views.{numbers_of}
use Rattle.som_compat.specs.Marks.{Marked, lists_of}

pub mem_at : (xs : List ℕ) (i d : ℕ) → i < length xs → Mem (slice_index_or xs i d) xs
mem_at [] i d lt = absurd (omega arith)
mem_at (x ∷ xs) zero d lt = inl refl
mem_at (x ∷ xs) (suc i) d lt = inr (mem_at xs i d (omega arith))

pub take_more : (xs : List ℕ) (i d k : ℕ) → i < length xs → Mem k (take (i + 1) xs) ↔ (Mem k (take i xs) ⊎ (k ≡ slice_index_or xs i d))
take_more [] i d k lt = absurd (omega arith)
take_more (x ∷ xs) zero d k lt = (λ m. elim m [ inl e ↦ inr e | inr n ↦ absurd n ], λ m. elim m [ inl n ↦ absurd n | inr e ↦ inl e ])
take_more (x ∷ xs) (suc i) d k lt =
    let more = take_more xs i d k (omega arith) in
    let e : suc i + 1 ≡ suc (i + 1) = omega arith in
    rw e (
      (λ m. elim m [ inl e ↦ inl (inl e) | inr n ↦ (elim (more.0 n) [ inl h ↦ inl (inr h) | inr h ↦ inr h ]) ]),
      (λ m. elim m [ inl n ↦ (elim n [ inl e ↦ inl e | inr h ↦ inr (more.1 (inl h)) ]) | inr h ↦ inr (more.1 (inr h)) ]),
    )

pub marked_set : (marks : List Bool) (p k : ℕ) → p < length marks → Marked (slice_set marks p true) k ↔ (Marked marks k ⊎ (k ≡ p))
marked_set [] p k lt = absurd (omega arith)
marked_set (m ∷ ms) zero zero lt = (λ h. inr refl, λ h. refl)
marked_set (m ∷ ms) zero (suc k) lt = (λ h. inl h, λ h. elim h [ inl n ↦ n | inr e ↦ absurd (omega arith) ])
marked_set (m ∷ ms) (suc p) zero lt = (λ h. inl h, λ h. elim h [ inl n ↦ n | inr e ↦ absurd (omega arith) ])
marked_set (m ∷ ms) (suc p) (suc k) lt =
    let more = marked_set ms p k (omega arith) in (
      (λ h. elim (more.0 h) [ inl n ↦ inl n | inr e ↦ inr (ap suc e) ]),
      (λ h. elim h [ inl n ↦ more.1 (inl n) | inr e ↦ more.1 (inr (omega arith)) ]),
    )

pub none_marked : (n k : ℕ) → Marked (replicate n false) k → ⊥
none_marked zero k m = true≢false (sym m)
none_marked (suc n) zero m = true≢false (sym m)
none_marked (suc n) (suc k) m = none_marked n k m

-- a marked place is one of the list
pub within_marks : (marks : List Bool) (k : ℕ) → Marked marks k → k < length marks
within_marks [] k m = absurd (true≢false (sym m))
within_marks (b ∷ bs) zero m = omega arith
within_marks (b ∷ bs) (suc k) m = omega (arith, within_marks bs k m)

pub row_is : (rows : List Row) (k : ℕ) → numbers_of (slice_index_or rows k (record { numbers = []; count = 0; metaclass = None })) ≡ slice_index_or (lists_of rows) k []
row_is [] k = refl
row_is (r ∷ rs) zero = refl
row_is (r ∷ rs) (suc k) = row_is rs k

-- what is reached stays in the rows
pub all_reached : (rows : List (List ℕ)) (marks : List Bool) → ((x p : ℕ) → Marked marks x → Mem p (slice_index_or rows x []) → Marked marks p)
    → (x a : ℕ) → Descends (rows_of rows) x a → Marked marks x → Marked marks a
all_reached rows marks whole x a itself m = m
all_reached rows marks whole x a (by_parent p in_row d) m = all_reached rows marks whole p a d (whole x p m in_row)

pub further : (rows : List (List ℕ)) (x y p : ℕ) → Descends (rows_of rows) x y → Mem p (slice_index_or rows y []) → Descends (rows_of rows) x p
further rows x y p itself m = by_parent p m itself
further rows x y p (by_parent q in_row d) m = by_parent q in_row (further rows q y p d m)

pub low_end : (rows : List (List ℕ)) → ((x p : ℕ) → Mem p (slice_index_or rows x []) → p < x) → (x a : ℕ) → Descends (rows_of rows) x a → a ≤ x
low_end rows low x a itself = omega arith
low_end rows low x a (by_parent p m d) = omega (arith, low x p m, low_end rows low p a d)

pub down : (x k : ℕ) → k - 1 ≤ x → (x ≡ k - 1) ⊎ (k ≤ x)
down x k le = elim (cases_lt x k) [ inl lt ↦ inl (omega arith) | inr ge ↦ inr (omega arith) ]
