-- Lists of ancestors by places.
use Rattle.std.proofs.Common.{◌≡◌, ℕ, zero, suc, ◌+◌, ◌<◌, ◌≤◌, ◌==◌, inl, inr, Bool, true, false, if◌then◌else◌, List, [], ◌∷◌, ◌++◌, length, map, drop, slice_index_or, slice_set, refl, sym, ap, ◌∙◌, subst, arith, length-append}
use Rattle.std.proofs.lemmas.Bool.{eqb-true, eqb-false, cases_lt}
use Rattle.std.proofs.lemmas.List.{get_or-set_same, get_or-set_other, get_or_past, length-set}
use Rattle.std.proofs.Math.ListN.{get_or-append}
use Rattle.std.proofs.Math.Seq.{get_or-append_seam}
use Rattle.som_model.specs.Lists.{Mem, some, joined}
use Rattle.som_model.specs.Hierarchy.{Tells, Falls}
use Rattle.som_model.specs.Ancestors.{Descends, itself, by_parent, anc}
use Rattle.som_model.proofs.KeyLaws.{exact_numbers}
use Rattle.som_model_laws.proofs.Laws.{ancestors, ancestors_step}
use Rattle.som_model_laws.proofs.Members.{map_on}
use Rattle.som_model_laws.specs.Once.{adds}
use Rattle.som_model_laws.specs.Rows.{rows_of, AreLow, AreMarks, AreAncestors}
use Rattle.som_model_laws.proofs.WalkLaw.{adds_both, firsts_adds}

pub mem_at : (xs : List ℕ) (i d : ℕ) → i < length xs → Mem (slice_index_or xs i d) xs
mem_at [] i d lt = absurd (omega arith)
mem_at (x ∷ xs) zero d lt = inl refl
mem_at (x ∷ xs) (suc i) d lt = inr (mem_at xs i d (omega arith))

pub tells : (rows : List (List ℕ)) → Tells (rows_of rows)
tells rows = record { one = exact_numbers.one; two = exact_numbers.two }

or_true : (b c : Bool) → c ≡ true → (if b then true else c) ≡ true
or_true true c e = refl
or_true false c e = e

member_other : (k x : ℕ) (list : List ℕ) → (k == x) ≡ false → some (λ y. k == y) (list ++ x ∷ []) ≡ some (λ y. k == y) list
member_other k x [] e = rw e refl
member_other k x (y ∷ ys) e = ap (λ (b : Bool). if (k == y) then true else b) (member_other k x ys e)

member_last : (k : ℕ) (list : List ℕ) → some (λ y. k == y) (list ++ k ∷ []) ≡ true
member_last k [] = let e = exact_numbers.one k in rw e refl
member_last k (y ∷ ys) = or_true (k == y) (some (λ z. k == z) (ys ++ k ∷ [])) (member_last k ys)

marked_one : (marks : List Bool) (list : List ℕ) (x k : ℕ) (b : Bool) → (k == x) ≡ b → x < length marks
    → (slice_index_or marks k false ≡ some (λ y. k == y) list) → slice_index_or (slice_set marks x true) k false ≡ some (λ y. k == y) (list ++ x ∷ [])
marked_one marks list x k true e lt was =
    let same = eqb-true k x e in
    subst (λ (z : ℕ). slice_index_or (slice_set marks x true) z false ≡ some (λ y. z == y) (list ++ x ∷ [])) (sym same)
    (get_or-set_same marks x true false lt ∙ sym (member_last x list))
marked_one marks list x k false e lt was = get_or-set_other marks x k true false (eqb-false k x e) ∙ was ∙ sym (member_other k x list e)

pub marks_more : (marks : List Bool) (list : List ℕ) (x : ℕ) → x < length marks → AreMarks marks list → AreMarks (slice_set marks x true) (list ++ x ∷ [])
marks_more marks list x lt was = record {
  by = λ k within.
      let within2 : k < length marks = omega (arith, within, length-set {A = Bool}) in
      marked_one marks list x k (k == x) refl lt (was.by k within2);
}

pub one_more : (f : ℕ → List ℕ) (row list : List ℕ) (i d : ℕ) → i < length row
    → adds ◌==◌ list (joined (map f (drop i row))) ≡ adds ◌==◌ (adds ◌==◌ list (f (slice_index_or row i d))) (joined (map f (drop (i + 1) row)))
one_more f [] list i d lt = absurd (omega arith)
one_more f (x ∷ xs) list zero d lt = adds_both ◌==◌ (f x) (joined (map f xs)) list
one_more f (x ∷ xs) list (suc i) d lt = let e : suc i + 1 ≡ suc (i + 1) = omega arith in rw e (one_more f xs list i d (omega arith))

pub falls : (rows : List (List ℕ)) → AreLow rows → Falls (rows_of rows)
falls rows low x p m = let l = low x p m in omega (arith, l)

low_end : (rows : List (List ℕ)) → AreLow rows → (x a : ℕ) → Descends (rows_of rows) x a → a ≤ x
low_end rows low x a itself = omega arith
low_end rows low x a (by_parent p m d) = omega (arith, low x p m, low_end rows low p a d)

pub known_low : (rows : List (List ℕ)) (n : ℕ) (all : List (List ℕ)) → AreLow rows → AreAncestors rows n all → (p a : ℕ) → Mem a (slice_index_or all p []) → a ≤ p
known_low rows n all low known p a m = elim (cases_lt p n) [
  | inl lt ↦ low_end rows low p a ((ancestors (rows_of rows) (tells rows) (falls rows low) p a).0 (rw (known.by p lt) at m))
  | inr ge ↦ (let le : length all ≤ p = omega (arith, known.long) in absurd (rw (get_or_past all p [] le) at m))
]

-- the list of the next class
pub next_list : (rows : List (List ℕ)) (n : ℕ) (all : List (List ℕ)) (row list : List ℕ) → AreLow rows → AreAncestors rows n all → row ≡ slice_index_or rows n []
    → list ≡ adds ◌==◌ [] (n ∷ joined (map (λ p. slice_index_or all p []) row)) → AreAncestors rows (n + 1) (all ++ list ∷ [])
next_list rows n all row list low known is_row is_list =
    let h = rows_of rows in
    let parents : map (λ p. slice_index_or all p []) (slice_index_or rows n []) ≡ map (anc h) (slice_index_or rows n []) =
    map_on (λ p. slice_index_or all p []) (anc h) (slice_index_or rows n []) (λ p m. known.by p (low n p m)) in
    let whole : list ≡ anc h n =
    is_list ∙ ap (λ z. adds ◌==◌ [] (n ∷ joined (map (λ p. slice_index_or all p []) z))) is_row
    ∙ ap (λ z. adds ◌==◌ [] (n ∷ joined z)) parents
    ∙ sym (firsts_adds ◌==◌ exact_numbers.one exact_numbers.two (n ∷ joined (map (anc h) (slice_index_or rows n []))))
    ∙ sym (ancestors_step h (falls rows low) n) in
    record {
      long = omega (arith, length-append all (list ∷ []), known.long);
      by = λ i lt. elim (cases_lt i n) [
        | inl less ↦ (let within : i < length all = omega (arith, known.long) in get_or-append all (list ∷ []) [] i within ∙ known.by i less)
        | inr ge ↦ (let e : i ≡ length all = omega (arith, known.long) in let e2 : i ≡ n = omega arith in
            ap (λ k. slice_index_or (all ++ list ∷ []) k []) e ∙ get_or-append_seam all list [] [] ∙ whole ∙ ap (anc (rows_of rows)) (sym e2))
      ];
    }

pub parent_more : (known : List (List ℕ)) (row list list2 item whole : List ℕ) (i : ℕ) → i < length row → item ≡ slice_index_or known (slice_index_or row i 0) []
    → list2 ≡ adds ◌==◌ list item
    → adds ◌==◌ list (joined (map (λ p. slice_index_or known p []) (drop i row))) ≡ whole
    → adds ◌==◌ list2 (joined (map (λ p. slice_index_or known p []) (drop (i + 1) row))) ≡ whole
parent_more known row list list2 item whole i lt is_item is_list same =
    let F : ℕ → List ℕ = λ p. slice_index_or known p [] in
    ap (λ z. adds ◌==◌ z (joined (map F (drop (i + 1) row)))) (is_list ∙ ap (adds ◌==◌ list) is_item)
    ∙ sym (one_more F row list i 0 lt) ∙ same

pub next_of : (rows : List (List ℕ)) (n : ℕ) (all known : List (List ℕ)) (row list : List ℕ) → AreLow rows → AreAncestors rows n all → row ≡ slice_index_or rows n []
    → known ≡ all → list ≡ adds ◌==◌ [] (n ∷ joined (map (λ p. slice_index_or known p []) row)) → AreAncestors rows (n + 1) (all ++ list ∷ [])
next_of rows n all known row list low below is_row is_known is_list =
    next_list rows n all row list low below is_row (is_list ∙ ap (λ (z : List (List ℕ)). adds ◌==◌ [] (n ∷ joined (map (λ p. slice_index_or z p []) row))) is_known)
