-- Marks of classes that are taken away again.
use Rattle.std.proofs.Common.{◌≡◌, ℕ, zero, suc, ◌+◌, ◌<◌, ◌≤◌, ◌==◌, ◌⊎◌, inl, inr, Bool, true, false, List, [], ◌∷◌, length, drop, get_or, slice_index_or, slice_set, sym, ap, ◌∙◌, subst, arith, true≢false}
use Rattle.std.proofs.lemmas.Bool.{cases_eq, cases_lt, eqb-true}
use Rattle.std.proofs.lemmas.List.{get_or-set_same, get_or-set_other, get_or_past, drop_all}
use Rattle.som_model.specs.Lists.{Mem}
use Rattle.som_model_laws.proofs.Members.{not_true, some_mem}
use Rattle.som_model_laws.specs.Rows.{AreMarks}

-- each class that is marked is one of these
abbrev pub AreOnly : List Bool → List ℕ → Type 0
AreOnly marks left = (k : ℕ) → slice_index_or marks k false ≡ true → Mem k left

pub only_marked : (marks : List Bool) (list : List ℕ) → AreMarks marks list → AreOnly marks list
only_marked marks list was k e = elim (cases_lt k (length marks)) [
  | inl lt ↦ (let r = some_mem (λ x. k == x) list (sym (was.by k lt) ∙ e) in subst (λ z. Mem z list) (sym (eqb-true k r.0 r.2)) r.1)
  | inr ge ↦ absurd (true≢false (sym e ∙ get_or_past marks k false ge))
]

drop_mem : (xs : List ℕ) (i x k : ℕ) → i < length xs → x ≡ get_or xs i x → Mem k (drop i xs) → (k ≡ x) ⊎ Mem k (drop (i + 1) xs)
drop_mem [] i x k lt is m = absurd (omega (arith, lt))
drop_mem (y ∷ xs) zero x k lt is (inl e) = inl (e ∙ sym is)
drop_mem (y ∷ xs) zero x k lt is (inr m) = inr m
drop_mem (y ∷ xs) (suc i) x k lt is m =
    let s : suc i + 1 ≡ suc (i + 1) = omega arith in
    elim (drop_mem xs i x k (omega (arith, lt)) is m) [ inl e ↦ inl e | inr n ↦ inr (subst (λ j. Mem k (drop j (y ∷ xs))) (sym s) n) ]

-- without the mark of the next one, the others are left
pub one_unmarked : (marks : List Bool) (list : List ℕ) (i x : ℕ) → i < length list → x ≡ get_or list i x → x < length marks → AreOnly marks (drop i list) → AreOnly (slice_set marks x false) (drop (i + 1) list)
one_unmarked marks list i x lt is within only k e = elim (cases_eq k x) [
  | inl same ↦ absurd (true≢false (sym e ∙ ap (λ z. slice_index_or (slice_set marks x false) z false) same ∙ get_or-set_same marks x false false within))
  | inr other ↦ elim (drop_mem list i x k lt is (only k (sym (get_or-set_other marks x k false false other) ∙ e))) [ inl same ↦ absurd (other same) | inr m ↦ m ]
]

-- and what is past the marks has none
pub none_unmarked : (marks : List Bool) (list : List ℕ) (i x : ℕ) → i < length list → x ≡ get_or list i x → length marks ≤ x → AreOnly marks (drop i list) → AreOnly marks (drop (i + 1) list)
none_unmarked marks list i x lt is past only k e = elim (drop_mem list i x k lt is (only k e)) [
  | inl same ↦ absurd (true≢false (sym e ∙ ap (λ z. slice_index_or marks z false) same ∙ get_or_past marks x false past))
  | inr m ↦ m
]

pub all_unmarked : (marks : List Bool) (list : List ℕ) (i : ℕ) → length list ≤ i → AreOnly marks (drop i list) → AreMarks marks []
all_unmarked marks list i le only = record {
  by = λ k lt. not_true (slice_index_or marks k false) (λ e. subst (λ l. Mem k l) (drop_all i list le) (only k e));
}
