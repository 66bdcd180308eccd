-- What descends from a place.
use Rattle.std.proofs.Common.{◌≡◌, ℕ, ◌+◌, ◌<◌, inl, inr, Bool, true, false, if◌then◌else◌, List, [], ◌∷◌, length, slice_index_or, slice_set, refl, sym, ◌∙◌, subst, arith, true≢false}
use Rattle.std.proofs.lemmas.Bool.{cases_lt}
use Rattle.som_model.specs.Lists.{Mem}
use Rattle.som_model.specs.Ancestors.{Descends, itself, by_parent}
use Rattle.som_model_laws.specs.Rows.{rows_of, AreLow}
use Rattle.som_compat.specs.Marks.{Marked, some_marked}
use Rattle.som_compat.proofs.Marking.{marked_set, low_end}

if_some : (b : Bool) (p : ℕ) (ps : List ℕ) (marks : List Bool) → slice_index_or marks p false ≡ b → (some_marked ps marks ≡ true → (q : ℕ) × Mem q ps × Marked marks q)
    → (if b then true else some_marked ps marks) ≡ true → (q : ℕ) × Mem q (p ∷ ps) × Marked marks q
if_some true p ps marks e f t = (p, inl refl, e)
if_some false p ps marks e f t = let r = f t in (r.0, inr r.1, r.2)

pub some_is : (ps : List ℕ) (marks : List Bool) → some_marked ps marks ≡ true → (q : ℕ) × Mem q ps × Marked marks q
some_is [] marks t = absurd (true≢false (sym t))
some_is (p ∷ ps) marks t = if_some (slice_index_or marks p false) p ps marks refl (some_is ps marks) t

or_true : (b c : Bool) → c ≡ true → (if b then true else c) ≡ true
or_true true c e = refl
or_true false c e = e

pub is_some_marked : (ps : List ℕ) (marks : List Bool) (q : ℕ) → Mem q ps → Marked marks q → some_marked ps marks ≡ true
is_some_marked [] marks q m k = absurd m
is_some_marked (p ∷ ps) marks q (inl e) k = let f : slice_index_or marks p false ≡ true = subst (λ (z : ℕ). slice_index_or marks z false ≡ true) e k in rw f refl
is_some_marked (p ∷ ps) marks q (inr m) k = or_true (slice_index_or marks p false) (some_marked ps marks) (is_some_marked ps marks q m k)

pub record AboveSoFar (rows : List (List ℕ)) (top : ℕ) (above : List Bool) (k : ℕ) : Type 0 where
  pub sound : (x : ℕ) → Marked above x → Descends (rows_of rows) x top
  pub whole : (x : ℕ) → x < k → Descends (rows_of rows) x top → Marked above x

pub above_first : (rows : List (List ℕ)) (top : ℕ) (above : List Bool) → AreLow rows → top < length above → ((k : ℕ) → Marked above k → ⊥) → AboveSoFar rows top (slice_set above top true) (top + 1)
above_first rows top above low lt clear = record {
  sound = λ x m. elim ((marked_set above top x lt).0 m) [ inl n ↦ absurd (clear x n) | inr e ↦ subst (λ (z : ℕ). Descends (rows_of rows) z top) (sym e) itself ];
  whole = λ x less d. (marked_set above top x lt).1 (inr (let l = low_end rows low x top d in omega arith));
}

-- a parent is marked exactly where the class descends
pub above_set : (rows : List (List ℕ)) (top k : ℕ) (above : List Bool) → AreLow rows → top < k → k < length above → some_marked (slice_index_or rows k []) above ≡ true
    → AboveSoFar rows top above k → AboveSoFar rows top (slice_set above k true) (k + 1)
above_set rows top k above low gt lt is so = record {
  sound = λ x m. elim ((marked_set above k x lt).0 m) [
    | inl n ↦ so.sound x n
    | inr e ↦ (let r = some_is (slice_index_or rows k []) above is in subst (λ (z : ℕ). Descends (rows_of rows) z top) (sym e) (by_parent r.0 r.1 (so.sound r.0 r.2)))
  ];
  whole = λ x less d. elim (cases_lt x k) [
    | inl l ↦ (marked_set above k x lt).1 (inl (so.whole x l d))
    | inr ge ↦ (marked_set above k x lt).1 (inr (omega arith))
  ];
}

no_parent : (rows : List (List ℕ)) (top x k : ℕ) (above : List Bool) → AreLow rows → x ≡ k → top < k → some_marked (slice_index_or rows k []) above ≡ false → AboveSoFar rows top above k → Descends (rows_of rows) x top → ⊥
no_parent rows top x k above low e gt is so itself = omega arith
no_parent rows top x k above low e gt is so (by_parent p m d) =
    let in_row = subst (λ (z : ℕ). Mem p (slice_index_or rows z [])) e m in
    let lt = low k p in_row in
    true≢false (sym (is_some_marked (slice_index_or rows k []) above p in_row (so.whole p lt d)) ∙ is)

pub above_kept : (rows : List (List ℕ)) (top k : ℕ) (above : List Bool) → AreLow rows → top < k → some_marked (slice_index_or rows k []) above ≡ false
    → AboveSoFar rows top above k → AboveSoFar rows top above (k + 1)
above_kept rows top k above low gt is so = record {
  sound = so.sound;
  whole = λ x less d. elim (cases_lt x k) [
    | inl l ↦ so.whole x l d
    | inr ge ↦ (let e : x ≡ k = omega arith in absurd (no_parent rows top x k above low e gt is so d))
  ];
}
