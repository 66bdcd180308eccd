-- Rows of marks, and the only marked place among some.
use Rattle.std.proofs.Common.{◌≡◌, ℕ, zero, suc, ◌+◌, ◌<◌, ◌≤◌, ◌==◌, ◌⊎◌, inl, inr, Bool, true, false, not, if◌then◌else◌, List, [], ◌∷◌, ◌++◌, length, take, slice_index_or, slice_set, Option, Some, None, IfSome, refl, sym, ap, ◌∙◌, subst, arith, true≢false, length-append}
use Rattle.std.proofs.lemmas.Bool.{cases_lt, eqb-true, eqb-false, eq-eqb}
use Rattle.std.proofs.lemmas.List.{get_or-set_same, get_or-set_other, take_all}
use Rattle.som_model.specs.Class.{Class}
use Rattle.som_model.specs.Lists.{Mem, find, some}
use Rattle.som_order.specs.Names.{name_at}
use Rattle.som_model_laws.proofs.Members.{find_first}
use Rattle.som_verify_classes.proofs.Doubled.{take_last}
use Rattle.som_sema_names.specs.Introducers.{AreGathered, introduces, stands}
use Rattle.som_sema_names.specs.Searching.{AreRows, IsOnly, IsRow, is_marked, is_other}
use Rattle.som_sema_names.proofs.Noting.{at_end, at_front}
use Rattle.som_sema_names.proofs.Seen.{stands_both}

-- ---- places on a list

stands_mem : (p : ℕ) (list : List ℕ) → stands p list ≡ true → Mem p list
stands_mem p [] e = absurd (true≢false (sym e))
stands_mem p (x ∷ xs) e = by (p == x) refl (stands_mem p xs) e
  where
    by : (b : Bool) → (p == x) ≡ b → (stands p xs ≡ true → Mem p xs) → (if b then true else stands p xs) ≡ true → Mem p (x ∷ xs)
    by true is f e = inl (eqb-true p x is)
    by false is f e = inr (f e)

mem_stands : (p : ℕ) (list : List ℕ) → Mem p list → stands p list ≡ true
mem_stands p [] m = absurd m
mem_stands p (x ∷ xs) (inl e) = ap (λ (b : Bool). if b then true else stands p xs) (eq-eqb p x e)
mem_stands p (x ∷ xs) (inr m) = by (p == x) (mem_stands p xs m)
  where
    by : (b : Bool) → stands p xs ≡ true → (if b then true else stands p xs) ≡ true
    by true e = refl
    by false e = e

some_out : (test : ℕ → Bool) (list : List ℕ) (q : ℕ) → some test list ≡ false → Mem q list → test q ≡ false
some_out test [] q e m = absurd m
some_out test (x ∷ xs) q e m = by (test x) refl (some_out test xs q) e m
  where
    by : (b : Bool) → test x ≡ b → (some test xs ≡ false → Mem q xs → test q ≡ false) → (if b then true else some test xs) ≡ false → Mem q (x ∷ xs) → test q ≡ false
    by true is f e m = absurd (true≢false e)
    by false is f e (inl same) = ap test same ∙ is
    by false is f e (inr m) = f e m

-- ---- rows

mark_last : (list : List ℕ) (row : List Bool) (x p : ℕ) (b : Bool) → (p == x) ≡ b → x < length row → is_marked row p ≡ stands p list
    → is_marked (slice_set row x true) p ≡ (if stands p list then true else (if b then true else false))
mark_last list row x p true e lt was = ap (λ q. slice_index_or (slice_set row x true) q false) (eqb-true p x e) ∙ get_or-set_same row x true false lt ∙ sym (both (stands p list))
  where
    both : (b : Bool) → (if b then true else true) ≡ true
    both true = refl
    both false = refl
mark_last list row x p false e lt was = get_or-set_other row x p true false (eqb-false p x e) ∙ was ∙ sym (both (stands p list))
  where
    both : (b : Bool) → (if b then true else false) ≡ b
    both true = refl
    both false = refl

-- a place more is marked
pub marks_next : (list : List ℕ) (i : ℕ) (row next : List Bool) → i < length list → slice_index_or list i 0 < length row → next ≡ slice_set row (slice_index_or list i 0) true
    → IsRow (take i list) row → IsRow (take (i + 1) list) next
marks_next list i row next lt low is was = λ p.
    let x = slice_index_or list i 0 in
    ap (λ z. is_marked z p) is
    ∙ mark_last (take i list) row x p (p == x) refl low (was p)
    ∙ sym (ap (stands p) (take_last list i 0 lt) ∙ stands_both p (take i list) (x ∷ []))

mem_last : (p x : ℕ) (list : List ℕ) → Mem p (list ++ x ∷ []) → Mem p list ⊎ (p ≡ x)
mem_last p x [] (inl e) = inr e
mem_last p x [] (inr m) = absurd m
mem_last p x (y ∷ ys) (inl e) = inl (inl e)
mem_last p x (y ∷ ys) (inr m) = elim (mem_last p x ys m) [
  | inl k ↦ inl (inr k)
  | inr e ↦ inr e
]

-- a number past one place more
pub past_next : (list : List ℕ) (i old next : ℕ) → i < length list → old ≤ next → slice_index_or list i 0 + 1 ≤ next → ((p : ℕ) → Mem p (take i list) → p < old)
    → (p : ℕ) → Mem p (take (i + 1) list) → p < next
past_next list i old next lt le over was p m = elim (mem_last p (slice_index_or list i 0) (take i list) (subst (Mem p) (take_last list i 0 lt) m)) [
  | inl k ↦ (let h = was p k in omega (arith, h, le))
  | inr e ↦ omega (arith, e, over)
]

pub past_end : (list : List ℕ) (i n : ℕ) → length list ≤ i → ((p : ℕ) → Mem p (take i list) → p < n) → (p : ℕ) → Mem p list → p < n
past_end list i n le was p m = was p (subst (Mem p) (sym (take_all i list le)) m)

-- a row more
pub rows_next : (lists : List (List ℕ)) (rows next : List (List Bool)) (row : List Bool) (n : ℕ) → length rows ≡ n → next ≡ rows ++ row ∷ [] → IsRow (slice_index_or lists n []) row
    → ((j : ℕ) → j < n → IsRow (slice_index_or lists j []) (slice_index_or rows j [])) → (j : ℕ) → j < n + 1 → IsRow (slice_index_or lists j []) (slice_index_or next j [])
rows_next lists rows next row n long is one was j lt = λ p.
    ap (λ z. is_marked (slice_index_or z j []) p) is
    ∙ elim (cases_lt j n) [
      | inl less ↦ (ap (λ z. is_marked z p) (at_front rows (row ∷ []) j [] (omega (arith, less, long))) ∙ was j less p)
      | inr ge ↦ (
          let here : j ≡ n = omega (arith, ge, lt) in
          let there : j ≡ length rows = omega (arith, here, long) in
          ap (λ k. is_marked (slice_index_or (rows ++ row ∷ []) k []) p) there
          ∙ ap (λ z. is_marked z p) (at_end rows [] row [])
          ∙ one p
          ∙ ap (λ k. stands p (slice_index_or lists k [])) (sym here))
    ]

-- ---- the only one

pub alone_marked : (row : List Bool) (places : List ℕ) (place : ℕ) (o : Option ℕ) → Some place ≡ find (is_marked row) places → IfSome o (λ p. p ≡ place) → IfSome o (λ p. is_marked row p ≡ true)
alone_marked row places place None e is = tt
alone_marked row places place (Some p) e is = ap (is_marked row) is ∙ (find_first (is_marked row) places place (sym e)).passes

same_by : (q p : ℕ) (b c : Bool) → (q == p) ≡ c → b ≡ true → (if b then not c else false) ≡ false → q ≡ p
same_by q p true true is m e = eqb-true q p is
same_by q p true false is m e = absurd (true≢false e)
same_by q p false c is m e = absurd (true≢false (sym m))

-- the only marked place among those of a name is that of the only class on the list that introduces it
pub only_there : (cs : List Class) (names : List (List ℕ)) (places : List (List ℕ)) → AreGathered cs names places → (list : List ℕ) (row : List Bool) → IsRow list row
    → ((p : ℕ) → Mem p list → p < length cs) → (i : ℕ) → i < length names → (name : List ℕ) → name_at names i ≡ name → (ps : List ℕ) → ps ≡ slice_index_or places i []
    → (o : Option ℕ) → IfSome o (λ p. is_marked row p ≡ true) → IfSome o (λ p. some (is_other row p) ps ≡ false) → IfSome o (IsOnly cs list name)
only_there cs names places g list row r low i lt name at ps are None m e = tt
only_there cs names places g list row r low i lt name at ps are (Some p) m e = record {
  on = stands_mem p list (sym (r p) ∙ m);
  only = λ q mq has.
      let here : stands q ps ≡ true = ap (stands q) are ∙ g.found i q lt (low q mq) ∙ ap (λ n. introduces cs n q) at ∙ has in
      same_by q p (is_marked row q) (q == p) refl (r q ∙ mem_stands q list mq) (some_out (is_other row p) ps q e (stands_mem q ps here));
}
