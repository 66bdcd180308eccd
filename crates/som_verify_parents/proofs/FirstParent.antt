-- The ancestors of a first parent go over as they are, since none of them stands twice and the class isn't one of them.
use Rattle.std.proofs.Common.{◌≡◌, ℕ, suc, ◌+◌, ◌<◌, ◌≤◌, ◌==◌, Bool, true, if◌then◌else◌, List, [], ◌∷◌, ◌++◌, length, take, slice_index_or, slice_set, inl, inr, refl, sym, ap, ◌∙◌, subst, arith}
use Rattle.std.proofs.lemmas.Bool.{cases_lt}
use Rattle.std.proofs.lemmas.List.{get_or_past}
use Rattle.std.proofs.Math.Seq.{take-suc}
use Rattle.som_model.specs.Lists.{Mem, firsts, without}
use Rattle.som_model.proofs.KeyLaws.{exact_numbers}
use Rattle.som_model_laws.specs.Once.{adds}
use Rattle.som_model_laws.specs.Rows.{rows_of, AreLow, AreMarks, AreAncestors}
use Rattle.som_model_laws.proofs.Laws.{ancestors_apart}
use Rattle.som_model_laws.proofs.Listed.{tells, marks_more}
use Rattle.som_model_laws.proofs.Members.{Apart, not_true}
use Rattle.som_model_laws.proofs.WalkLaw.{adds_both, firsts_adds}

-- a list without what isn't on it
without_none : (x : ℕ) (ys : List ℕ) → (Mem x ys → ⊥) → without (◌==◌ x) ys ≡ ys
without_none x [] out = refl
without_none x (y ∷ ys) out =
    ap (λ (b : Bool). if b then without (◌==◌ x) ys else y ∷ without (◌==◌ x) ys) (not_true (x == y) (λ e. out (inl (exact_numbers.two x y e))))
    ∙ ap (λ z. y ∷ z) (without_none x ys (λ m. out (inr m)))

-- a list in which nothing stands twice is its own first occurrences
firsts_all : (xs : List ℕ) → Apart xs → firsts ◌==◌ xs ≡ xs
firsts_all [] o = refl
firsts_all (x ∷ xs) o = ap (λ z. x ∷ without (◌==◌ x) z) (firsts_all xs o.1) ∙ ap (λ z. x ∷ z) (without_none x xs o.0)

all_adds : (xs : List ℕ) → firsts ◌==◌ xs ≡ adds ◌==◌ [] xs
all_adds xs = firsts_adds ◌==◌ exact_numbers.one exact_numbers.two xs

-- nothing stands twice on the lists of ancestors
pub known_once : (rows : List (List ℕ)) (n : ℕ) (all : List (List ℕ)) → AreLow rows → AreAncestors rows n all → (p : ℕ)
    → adds ◌==◌ [] (slice_index_or all p []) ≡ slice_index_or all p []
known_once rows n all low known p = elim (cases_lt p n) [
  | inl lt ↦ sym (all_adds (slice_index_or all p [])) ∙ firsts_all (slice_index_or all p []) (subst Apart (sym (known.by p lt)) (ancestors_apart (rows_of rows) (tells rows) p))
  | inr ge ↦ (let le : length all ≤ p = omega (arith, known.long) in rw (get_or_past all p [] le) refl)
]

-- a class above which these stand, and then those of further parents
pub under_first : (place : ℕ) (xs ys list : List ℕ) → adds ◌==◌ [] xs ≡ xs → ((a : ℕ) → Mem a xs → a < place) → list ≡ place ∷ xs
    → adds ◌==◌ list ys ≡ adds ◌==◌ [] (place ∷ (xs ++ ys))
under_first place xs ys list once low is =
    let out : Mem place xs → ⊥ = λ m. let lt = low place m in omega (arith, lt) in
    let whole : adds ◌==◌ [] (place ∷ xs) ≡ place ∷ xs =
    sym (all_adds (place ∷ xs)) ∙ ap (λ z. place ∷ without (◌==◌ place) z) (all_adds xs ∙ once) ∙ ap (λ z. place ∷ z) (without_none place xs out) in
    ap (λ z. adds ◌==◌ z ys) (is ∙ sym whole) ∙ sym (adds_both ◌==◌ (place ∷ xs) ys [])

-- one mark more
pub mark_next : (marks : List Bool) (list : List ℕ) (i x : ℕ) → i < length list → x ≡ slice_index_or list i 0 → x < length marks → AreMarks marks (take i list) → AreMarks (slice_set marks x true) (take (i + 1) list)
mark_next marks list i x lt is within was =
    let e : i + 1 ≡ suc i = omega arith in
    subst (λ (z : List ℕ). AreMarks (slice_set marks x true) z) (sym (ap (λ k. take k list) e ∙ take-suc list i 0 lt ∙ ap (λ z. take i list ++ (z ∷ [])) (sym is)))
    (marks_more marks (take i list) x within was)
