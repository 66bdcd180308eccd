-- Lists with one item more: what is kept of them.
use Rattle.std.proofs.Common.{◌≡◌, ℕ, ◌<◌, ◌+◌, nat_eq, Bool, true, false, if◌then◌else◌, List, [], ◌∷◌, ◌++◌, length, take, get_or, inl, inr, refl, sym, ap, ◌∙◌, append-nil}
use Rattle.std.proofs.lemmas.List.{take_more}
use Rattle.std.proofs.lemmas.Bool.{cases_eq, eq-eqb, ne_eqb}
use Rattle.som_model.specs.Lists.{firsts, without, some}

-- the items so far and one more
pub step_is : {X : Type 0} (xs : List X) (i : ℕ) (x : X) → i < length xs → x ≡ get_or xs i x → take (i + 1) xs ≡ take i xs ++ x ∷ []
step_is xs i x lt is = take_more xs i x lt ∙ ap (λ y. take i xs ++ y ∷ []) (sym is)

append_step : {A : Type 0} (b : Bool) (all front back : List A) (x : A) → all ≡ front ++ back → (if b then all else x ∷ all) ≡ (if b then front else x ∷ front) ++ back
append_step true all front back x e = e
append_step false all front back x e = ap (λ l. x ∷ l) e

without-append : {A : Type 0} (test : A → Bool) (xs ys : List A) → without test (xs ++ ys) ≡ without test xs ++ without test ys
without-append test [] ys = refl
without-append test (x ∷ xs) ys = append_step (test x) (without test (xs ++ ys)) (without test xs) (without test ys) x (without-append test xs ys)

last_step : {A : Type 0} (b : Bool) (front : List A) (x : A) → front ++ (if b then [] else x ∷ []) ≡ (if b then front else front ++ x ∷ [])
last_step true front x = append-nil front
last_step false front x = refl

-- one item more, which is kept where it doesn't pass
pub without-push : {A : Type 0} (test : A → Bool) (xs : List A) (x : A) → without test (xs ++ x ∷ []) ≡ (if test x then without test xs else without test xs ++ x ∷ [])
without-push test xs x = without-append test xs (x ∷ []) ∙ last_step (test x) (without test xs) x

first_step : (kept : List ℕ) (x y : ℕ) (b s : Bool) → nat_eq y x ≡ b
    → y ∷ without (nat_eq y) (if s then kept else kept ++ x ∷ []) ≡ (if (if b then true else s) then y ∷ without (nat_eq y) kept else (y ∷ without (nat_eq y) kept) ++ x ∷ [])
first_step kept x y true true e = refl
first_step kept x y false true e = refl
first_step kept x y true false e = ap (λ l. y ∷ l) (without-push (nat_eq y) kept x ∙ ap (λ t. if t then without (nat_eq y) kept else without (nat_eq y) kept ++ x ∷ []) e)
first_step kept x y false false e = ap (λ l. y ∷ l) (without-push (nat_eq y) kept x ∙ ap (λ t. if t then without (nat_eq y) kept else without (nat_eq y) kept ++ x ∷ []) e)

eq_turned : (x y : ℕ) → nat_eq x y ≡ nat_eq y x
eq_turned x y = elim (cases_eq x y) [
  | inl e ↦ eq-eqb x y e ∙ sym (eq-eqb y x (sym e))
  | inr ne ↦ ne_eqb x y ne ∙ sym (ne_eqb y x (λ e. ne (sym e)))
]

-- one number more, which is kept where it wasn't there before
pub firsts-push : (xs : List ℕ) (x : ℕ) → firsts nat_eq (xs ++ x ∷ []) ≡ (if some (nat_eq x) xs then firsts nat_eq xs else firsts nat_eq xs ++ x ∷ [])
firsts-push [] x = refl
firsts-push (y ∷ ys) x = ap (λ l. y ∷ without (nat_eq y) l) (firsts-push ys x) ∙ first_step (firsts nat_eq ys) x y (nat_eq x y) (some (nat_eq x) ys) (eq_turned y x)

module _ (xs : List ℕ) (i x : ℕ) (within : i < length xs) (is : x ≡ get_or xs i x) where
  pub once_new : some (nat_eq x) (take i xs) ≡ false → firsts nat_eq (take (i + 1) xs) ≡ firsts nat_eq (take i xs) ++ x ∷ []
  once_new new = ap (firsts nat_eq) (step_is xs i x within is) ∙ firsts-push (take i xs) x ∙ ap (λ b. if b then firsts nat_eq (take i xs) else firsts nat_eq (take i xs) ++ x ∷ []) new

  pub once_again : some (nat_eq x) (take i xs) ≡ true → firsts nat_eq (take (i + 1) xs) ≡ firsts nat_eq (take i xs)
  once_again old = ap (firsts nat_eq) (step_is xs i x within is) ∙ firsts-push (take i xs) x ∙ ap (λ b. if b then firsts nat_eq (take i xs) else firsts nat_eq (take i xs) ++ x ∷ []) old

  pub left_in : (test : ℕ → Bool) → test x ≡ false → without test (take (i + 1) xs) ≡ without test (take i xs) ++ x ∷ []
  left_in test no' = ap (without test) (step_is xs i x within is) ∙ without-push test (take i xs) x ∙ ap (λ b. if b then without test (take i xs) else without test (take i xs) ++ x ∷ []) no'

  pub left_out : (test : ℕ → Bool) → test x ≡ true → without test (take (i + 1) xs) ≡ without test (take i xs)
  left_out test yes' = ap (without test) (step_is xs i x within is) ∙ without-push test (take i xs) x ∙ ap (λ b. if b then without test (take i xs) else without test (take i xs) ++ x ∷ []) yes'
