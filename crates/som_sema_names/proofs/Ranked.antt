-- Ranks on a list, and the least of some.
use Rattle.std.proofs.Common.{◌≡◌, ℕ, zero, suc, ◌+◌, ◌<◌, ◌≤◌, ◌==◌, inl, inr, Bool, true, false, if◌then◌else◌, List, [], ◌∷◌, ◌++◌, length, take, drop, slice_get, slice_index_or, slice_set, Option, Some, None, refl, sym, ap, ◌∙◌, arith}
use Rattle.std.proofs.lemmas.Bool.{eqb-true, eqb-false}
use Rattle.std.proofs.lemmas.List.{get_or-set_same, get_or-set_other}
use Rattle.som_model.specs.Class.{Class}
use Rattle.som_model.specs.Lists.{Mem, among, find}
use Rattle.som_model.proofs.KeyLaws.{exact_numbers}
use Rattle.som_order.specs.Names.{name_at}
use Rattle.som_model_laws.proofs.Members.{both_or_none}
use Rattle.som_verify_classes.proofs.Doubled.{take_last}
use Rattle.som_model_laws.proofs.Listed.{mem_at}
use Rattle.som_sema_names.specs.Introducers.{AreGathered, first_introducer, introduces, stands}
use Rattle.som_sema_names.specs.Ranking.{AreRanks, rank_from}
use Rattle.som_sema_names.proofs.Seen.{stands_both}

-- ---- ranks

rank_past : (n : ℕ) (test : ℕ → Bool) (list : List ℕ) → n ≤ rank_from n test list
rank_past n test [] = omega arith
rank_past n test (x ∷ xs) = by (test x) (rank_past (suc n) test xs)
  where
    by : (b : Bool) → suc n ≤ rank_from (suc n) test xs → n ≤ (if b then n else rank_from (suc n) test xs)
    by true r = omega arith
    by false r = omega (arith, r)

rank_suc : (n : ℕ) (test : ℕ → Bool) (list : List ℕ) → rank_from (suc n) test list ≡ suc (rank_from n test list)
rank_suc n test [] = refl
rank_suc n test (x ∷ xs) = by (test x) (rank_suc (suc n) test xs)
  where
    by : (b : Bool) → rank_from (suc (suc n)) test xs ≡ suc (rank_from (suc n) test xs) → (if b then suc n else rank_from (suc (suc n)) test xs) ≡ suc (if b then n else rank_from (suc n) test xs)
    by true r = refl
    by false r = r

rank_same : (n : ℕ) (test other : ℕ → Bool) (list : List ℕ) → ((x : ℕ) → test x ≡ other x) → rank_from n test list ≡ rank_from n other list
rank_same n test other [] e = refl
rank_same n test other (x ∷ xs) e =
    ap (λ (b : Bool). if b then n else rank_from (suc n) test xs) (e x)
    ∙ ap (λ (r : ℕ). if other x then n else r) (rank_same (suc n) test other xs e)

pub rank_none : (n : ℕ) (list : List ℕ) → rank_from n (λ x. false) list ≡ n + length list
rank_none n [] = omega arith
rank_none n (x ∷ xs) = rank_none (suc n) xs ∙ omega arith

-- what has the rank of a test is the first that passes it
pub find_rank : (test : ℕ → Bool) (list : List ℕ) → slice_get list (rank_from 0 test list) ≡ find test list
find_rank test [] = refl
find_rank test (x ∷ xs) = by (test x) (find_rank test xs)
  where
    by : (b : Bool) → slice_get xs (rank_from 0 test xs) ≡ find test xs → slice_get (x ∷ xs) (if b then 0 else rank_from 1 test xs) ≡ (if b then Some x else find test xs)
    by true r = refl
    by false r = ap (slice_get (x ∷ xs)) (rank_suc 0 test xs) ∙ r

pub find_on : (test other : ℕ → Bool) (list : List ℕ) → ((x : ℕ) → Mem x list → test x ≡ other x) → find test list ≡ find other list
find_on test other [] e = refl
find_on test other (x ∷ xs) e =
    ap (λ (b : Bool). if b then Some x else find test xs) (e x (inl refl))
    ∙ ap (λ (o : Option ℕ). if other x then Some x else o) (find_on test other xs (λ y m. e y (inr m)))

pub find_none : (list : List ℕ) → find (λ x. false) list ≡ None
find_none [] = refl
find_none (x ∷ xs) = find_none xs

-- ---- the list is ranked from its end

here_drop : (list : List ℕ) (i : ℕ) → i < length list → drop i list ≡ slice_index_or list i 0 ∷ drop (suc i) list
here_drop [] i lt = absurd (omega arith)
here_drop (x ∷ xs) zero lt = refl
here_drop (x ∷ xs) (suc i) lt = here_drop xs i (omega arith)

drop_all : (list : List ℕ) → drop (length list) list ≡ []
drop_all [] = refl
drop_all (x ∷ xs) = drop_all xs

pub ranked_none : (list : List ℕ) (p : ℕ) → rank_from (length list) (λ x. p == x) (drop (length list) list) ≡ length list
ranked_none list p = ap (rank_from (length list) (λ x. p == x)) (drop_all list)

ranked_one : (ranks : List ℕ) (x r rest p : ℕ) (b : Bool) → (p == x) ≡ b → x < length ranks → slice_index_or ranks p 0 ≡ rest → slice_index_or (slice_set ranks x r) p 0 ≡ (if b then r else rest)
ranked_one ranks x r rest p true e lt was =
    let same = eqb-true p x e in
    ap (λ q. slice_index_or (slice_set ranks x r) q 0) same ∙ get_or-set_same ranks x r 0 lt
ranked_one ranks x r rest p false e lt was = get_or-set_other ranks x p r 0 (eqb-false p x e) ∙ was

pub ranked_more : (ranks list : List ℕ) (n r x : ℕ) → n ≡ suc r → r < length list → x ≡ slice_index_or list r 0 → x < length ranks
    → ((p : ℕ) → p < length ranks → slice_index_or ranks p 0 ≡ rank_from n (λ y. p == y) (drop n list))
    → (p : ℕ) → p < length ranks → slice_index_or (slice_set ranks x r) p 0 ≡ rank_from r (λ y. p == y) (drop r list)
ranked_more ranks list n r x e lt is low was p within =
    ranked_one ranks x r (rank_from (suc r) (λ y. p == y) (drop (suc r) list)) p (p == x) refl low (was p within ∙ ap (λ k. rank_from k (λ y. p == y) (drop k list)) e)
    ∙ ap (λ z. rank_from r (λ y. p == y) (z ∷ drop (suc r) list)) is
    ∙ sym (ap (rank_from r (λ y. p == y)) (here_drop list r lt))

-- ---- the least rank

least_less : (n : ℕ) (test other : ℕ → Bool) (list : List ℕ) → rank_from n other list < rank_from n test list
    → rank_from n (λ x. if test x then true else other x) list ≡ rank_from n other list
least_less n test other [] lt = refl
least_less n test other (x ∷ xs) lt = by (test x) (other x) (rank_past (suc n) other xs) (least_less (suc n) test other xs) lt
  where
    by : (b c : Bool) → suc n ≤ rank_from (suc n) other xs
        → (rank_from (suc n) other xs < rank_from (suc n) test xs → rank_from (suc n) (λ y. if test y then true else other y) xs ≡ rank_from (suc n) other xs)
        → (if c then n else rank_from (suc n) other xs) < (if b then n else rank_from (suc n) test xs)
        → (if (if b then true else c) then n else rank_from (suc n) (λ y. if test y then true else other y) xs) ≡ (if c then n else rank_from (suc n) other xs)
    by true true p r l = refl
    by true false p r l = absurd (omega (arith, l, p))
    by false true p r l = refl
    by false false p r l = r l

least_more : (n : ℕ) (test other : ℕ → Bool) (list : List ℕ) → rank_from n test list ≤ rank_from n other list
    → rank_from n (λ x. if test x then true else other x) list ≡ rank_from n test list
least_more n test other [] le = refl
least_more n test other (x ∷ xs) le = by (test x) (other x) (rank_past (suc n) test xs) (least_more (suc n) test other xs) le
  where
    by : (b c : Bool) → suc n ≤ rank_from (suc n) test xs
        → (rank_from (suc n) test xs ≤ rank_from (suc n) other xs → rank_from (suc n) (λ y. if test y then true else other y) xs ≡ rank_from (suc n) test xs)
        → (if b then n else rank_from (suc n) test xs) ≤ (if c then n else rank_from (suc n) other xs)
        → (if (if b then true else c) then n else rank_from (suc n) (λ y. if test y then true else other y) xs) ≡ (if b then n else rank_from (suc n) test xs)
    by true c p r l = refl
    by false true p r l = absurd (omega (arith, l, p))
    by false false p r l = r l

numbers_swap : (x y : ℕ) → (x == y) ≡ (y == x)
numbers_swap x y = both_or_none (x == y) (y == x)
    (λ e. ap (λ z. y == z) (exact_numbers.two x y e) ∙ exact_numbers.one y)
    (λ e. ap (λ z. x == z) (exact_numbers.two y x e) ∙ exact_numbers.one x)

or_last : (b : Bool) → (if b then true else false) ≡ b
or_last true = refl
or_last false = refl

stands_last : (places : List ℕ) (p x : ℕ) → stands x (places ++ p ∷ []) ≡ (if stands x places then true else (p == x))
stands_last places p x = stands_both x places (p ∷ []) ∙ ap (λ (b : Bool). if stands x places then true else b) (or_last (x == p) ∙ numbers_swap x p)

one_more : (list places : List ℕ) (i : ℕ) → i < length places
    → rank_from 0 (λ x. stands x (take (i + 1) places)) list ≡ rank_from 0 (λ x. if stands x (take i places) then true else (slice_index_or places i 0 == x)) list
one_more list places i lt =
    rank_same 0 _ _ list (λ x. ap (stands x) (take_last places i 0 lt) ∙ stands_last (take i places) (slice_index_or places i 0) x)

rank_at : (list ranks places : List ℕ) (i : ℕ) → i < length places → ((p : ℕ) → Mem p places → p < length ranks) → AreRanks list (length ranks) ranks
    → slice_index_or ranks (slice_index_or places i 0) 0 ≡ rank_from 0 (λ x. slice_index_or places i 0 == x) list
rank_at list ranks places i lt low r = r.by (slice_index_or places i 0) (low (slice_index_or places i 0) (mem_at places i 0 lt))

module _ (list ranks places : List ℕ) (low : (p : ℕ) → Mem p places → p < length ranks) (r : AreRanks list (length ranks) ranks) (i : ℕ) (lt : i < length places) (rank least : ℕ)
    (is : rank ≡ slice_index_or ranks (slice_index_or places i 0) 0) (so : least ≡ rank_from 0 (λ x. stands x (take i places)) list) where
  pub lower : rank < least → rank ≡ rank_from 0 (λ x. stands x (take (i + 1) places)) list
  lower less =
      let at = rank_at list ranks places i lt low r in
      is ∙ at ∙ sym (one_more list places i lt ∙ least_less 0 (λ x. stands x (take i places)) (λ x. slice_index_or places i 0 == x) list (omega (arith, less, is, at, so)))

  pub no_lower : least ≤ rank → least ≡ rank_from 0 (λ x. stands x (take (i + 1) places)) list
  no_lower more =
      let at = rank_at list ranks places i lt low r in
      so ∙ sym (one_more list places i lt ∙ least_more 0 (λ x. stands x (take i places)) (λ x. slice_index_or places i 0 == x) list (omega (arith, more, is, at, so)))

-- ---- the first that introduces a name

pub ranks_there : (cs : List Class) (list now ranks : List ℕ) → now ≡ list → AreRanks list (length cs) ranks → AreRanks now (length ranks) ranks
ranks_there cs list now ranks e r = record {
  long = refl;
  by = λ p lt. r.by p (omega (arith, lt, r.long)) ∙ ap (rank_from 0 (λ x. p == x)) (sym e);
}

pub none_first : (cs : List Class) (names places : List (List ℕ)) (list name : List ℕ) → AreGathered cs names places → ((p : ℕ) → Mem p list → p < length cs) → among name names ≡ false
    → None ≡ first_introducer cs list name
none_first cs names places list name g low out = sym (find_on (introduces cs name) (λ x. false) list (λ x m. g.other name x out (low x m)) ∙ find_none list)

pub some_first : (cs : List Class) (names places : List (List ℕ)) (list now name found : List ℕ) (i rank : ℕ) → AreGathered cs names places → ((p : ℕ) → Mem p list → p < length cs)
    → now ≡ list → i < length names → name_at names i ≡ name → found ≡ slice_index_or places i [] → rank ≡ rank_from 0 (λ x. stands x found) now
    → slice_get now rank ≡ first_introducer cs list name
some_first cs names places list now name found i rank g low on lt at is so =
    ap (slice_get now) so
    ∙ find_rank (λ x. stands x found) now
    ∙ ap (find (λ x. stands x found)) on
    ∙ find_on (λ x. stands x found) (introduces cs name) list (λ x m. ap (stands x) is ∙ g.found i x lt (low x m) ∙ ap (λ z. introduces cs z x) at)
