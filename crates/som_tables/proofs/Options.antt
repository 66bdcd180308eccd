-- Options, and the elements of a list as options.
use Rattle.std.proofs.Common.{◌≡◌, ℕ, zero, suc, ◌+◌, ◌<◌, ◌≤◌, ◌⊎◌, inl, inr, false, is_some, List, [], ◌∷◌, ◌++◌, length, take, Option, Some, None, IsSome, slice_get, refl, sym, ap, ◌∙◌, arith, true≢false, length-append, ◌-◌, ◌≢◌}
use Rattle.std.specs.Prelude.{slice_set, Result, Ok, Err, OnErr}
use Rattle.std.specs.Option.{option_or, option_flatten}
use Rattle.std.proofs.lemmas.Option.{slice_get_within, slice_get_past}
use Rattle.std.proofs.lemmas.Bool.{cases_lt}
use Rattle.std.proofs.lemmas.List.{length-take-le}
use Rattle.std.proofs.Math.Seq.{take-append_seam}
use Rattle.som_tables.specs.Layout.{Extends}

pub none_is_not_some : {A : Type 0} (o : Option A) → o ≡ None → IsSome o → ⊥
none_is_not_some o e s = true≢false (sym (rw e at s))

pub none_else_some : {A : Type 0} (o : Option A) → (IsSome o → ⊥) → o ≡ None
none_else_some None f = refl
none_else_some (Some x) f = absurd (f refl)

pub none_from_is_some : {A : Type 0} (o : Option A) → is_some o ≡ false → o ≡ None
none_from_is_some None e = refl
none_from_is_some (Some x) e = absurd (true≢false e)

pub value_of_some : {A : Type 0} (o : Option A) → IsSome o → (x : A) × (o ≡ Some x)
value_of_some None s = absurd (true≢false (sym s))
value_of_some (Some x) s = (x, refl)

-- one of the two is there
pub option_or_cases : {A : Type 0} (o q : Option A) → IsSome (option_or o q) → IsSome o ⊎ IsSome q
option_or_cases None q s = inr s
option_or_cases (Some x) q s = inl refl

pub option_or_left : {A : Type 0} (o q : Option A) → IsSome o → IsSome (option_or o q)
option_or_left None q s = absurd (true≢false (sym s))
option_or_left (Some x) q s = refl

pub option_or_right : {A : Type 0} (o q : Option A) → IsSome q → IsSome (option_or o q)
option_or_right None q s = s
option_or_right (Some x) q s = refl

pub option_or-some : {A : Type 0} (o q : Option A) → IsSome o → option_or o q ≡ o
option_or-some None q s = absurd (true≢false (sym s))
option_or-some (Some x) q s = refl

pub slice_get_some : {A : Type 0} (xs : List A) (i : ℕ) → i < length xs → IsSome (slice_get xs i)
slice_get_some [] i h = absurd (omega arith)
slice_get_some (x ∷ xs) zero h = refl
slice_get_some (x ∷ xs) (suc i) h = slice_get_some xs i (omega arith)

pub slice_get-append_left : {A : Type 0} (xs ys : List A) (i : ℕ) → i < length xs → slice_get (xs ++ ys) i ≡ slice_get xs i
slice_get-append_left [] ys i h = absurd (omega arith)
slice_get-append_left (x ∷ xs) ys zero h = refl
slice_get-append_left (x ∷ xs) ys (suc i) h = slice_get-append_left xs ys i (omega arith)

pub slice_get-append_right : {A : Type 0} (xs ys : List A) (i : ℕ) → slice_get (xs ++ ys) (length xs + i) ≡ slice_get ys i
slice_get-append_right [] ys i = ap (slice_get ys) (omega arith)
slice_get-append_right (x ∷ xs) ys i =
    let e : length (x ∷ xs) + i ≡ suc (length xs + i) = omega arith in ap (slice_get ((x ∷ xs) ++ ys)) e ∙ slice_get-append_right xs ys i

pub slice_get-push : {A : Type 0} (xs : List A) (y : A) (i : ℕ) → length xs ≡ i → slice_get (xs ++ y ∷ []) i ≡ Some y
slice_get-push xs y i e = let at : i ≡ length xs + 0 = omega arith in ap (slice_get (xs ++ y ∷ [])) at ∙ slice_get-append_right xs (y ∷ []) 0

-- what is before the last element is as before
pub slice_get-before_push : {A : Type 0} (xs : List A) (y x : A) (i : ℕ) → slice_get (xs ++ y ∷ []) i ≡ Some x → (slice_get xs i ≡ Some x) ⊎ ((i ≡ length xs) × (y ≡ x))
slice_get-before_push xs y x i is = elim (cases_lt i (length xs)) [
  | inl lt ↦ inl (sym (slice_get-append_left xs (y ∷ []) i lt) ∙ is)
  | inr ge ↦ (let within = slice_get_within (xs ++ y ∷ []) i x is in let e : i ≡ length xs = omega (arith, length-append xs (y ∷ [])) in
      let last = slice_get-push xs y i (sym e) in inr (e, cc))
]

pub Extends-append : {A : Type 0} (xs ys : List A) → Extends xs (xs ++ ys)
Extends-append xs ys i x is = slice_get-append_left xs ys i (slice_get_within xs i x is) ∙ is

pub Extends-trans : {A : Type 0} (xs ys zs : List A) → Extends xs ys → Extends ys zs → Extends xs zs
Extends-trans xs ys zs e f i x is = f i x (e i x is)

-- what was there is there, as the first part
pub take-Extends : {A : Type 0} (xs ys : List A) → Extends xs ys → take (length xs) ys ≡ xs
take-Extends [] ys e = refl
take-Extends (x ∷ xs) [] e = absurd (grind (arith, e 0 x refl))
take-Extends (x ∷ xs) (y ∷ ys) e =
    let first : Some y ≡ Some x = e 0 x refl in let rest = take-Extends xs ys (λ i z is. e (suc i) z is) in cc

pub slice_get-Extends : {A : Type 0} (xs ys : List A) → Extends xs ys → (i : ℕ) → i < length xs → slice_get ys i ≡ slice_get xs i
slice_get-Extends xs ys e i h = let x = value_of_some (slice_get xs i) (slice_get_some xs i h) in e i x.0 x.1 ∙ sym x.1

pub length-Extends : {A : Type 0} (xs ys : List A) → Extends xs ys → length xs ≤ length ys
length-Extends [] ys e = omega arith
length-Extends (x ∷ xs) ys e =
    let last : length xs < length (x ∷ xs) = omega arith in
    let z = value_of_some (slice_get (x ∷ xs) (length xs)) (slice_get_some (x ∷ xs) (length xs) last) in
    let within = slice_get_within ys (length xs) z.0 (e (length xs) z.0 z.1) in omega arith

pub slice_get-set_same : {A : Type 0} (xs : List A) (i : ℕ) (y : A) → i < length xs → slice_get (slice_set xs i y) i ≡ Some y
slice_get-set_same [] i y h = absurd (omega arith)
slice_get-set_same (x ∷ xs) zero y h = refl
slice_get-set_same (x ∷ xs) (suc i) y h = slice_get-set_same xs i y (omega arith)

pub slice_get-set_other : {A : Type 0} (xs : List A) (i j : ℕ) (y : A) → j ≢ i → slice_get (slice_set xs i y) j ≡ slice_get xs j
slice_get-set_other [] i j y ne = refl
slice_get-set_other (x ∷ xs) zero zero y ne = absurd (ne refl)
slice_get-set_other (x ∷ xs) zero (suc j) y ne = refl
slice_get-set_other (x ∷ xs) (suc i) zero y ne = refl
slice_get-set_other (x ∷ xs) (suc i) (suc j) y ne = slice_get-set_other xs i j y (λ e. ne (ap suc e))

-- an empty last place changes nothing that is found
pub found-declare : {X : Type 0} (xs : List (Option X)) (c : ℕ) → option_flatten (slice_get (xs ++ None ∷ []) c) ≡ option_flatten (slice_get xs c)
found-declare [] zero = refl
found-declare [] (suc c) = refl
found-declare (x ∷ xs) zero = refl
found-declare (x ∷ xs) (suc c) = found-declare xs c

found-take : {X : Type 0} (xs : List (Option X)) (n c : ℕ) → length xs ≡ suc n → option_flatten (slice_get xs n) ≡ None → option_flatten (slice_get (take n xs) c) ≡ option_flatten (slice_get xs c)
found-take [] n c long none = absurd (omega arith)
found-take (x ∷ xs) zero zero long none = sym none
found-take (x ∷ xs) zero (suc c) long none = sym (ap option_flatten (slice_get_past xs c (omega arith)))
found-take (x ∷ xs) (suc n) zero long none = refl
found-take (x ∷ xs) (suc n) (suc c) long none = found-take xs n c (omega arith) none

-- nor does it where it is taken away
pub found-undeclare : {X : Type 0} (xs : List (Option X)) → option_flatten (slice_get xs (length xs - 1)) ≡ None → (c : ℕ) → option_flatten (slice_get (take (length xs - 1) xs) c) ≡ option_flatten (slice_get xs c)
found-undeclare [] none c = refl
found-undeclare (x ∷ xs) none c = found-take (x ∷ xs) (length (x ∷ xs) - 1) c (omega arith) none

pub set-push : {A : Type 0} (xs : List A) (y z : A) → slice_set (xs ++ y ∷ []) (length xs) z ≡ xs ++ z ∷ []
set-push [] y z = refl
set-push (x ∷ xs) y z = ap (λ ys. x ∷ ys) (set-push xs y z)

pub take-push : {A : Type 0} (xs : List A) (y : A) → take (length (xs ++ y ∷ []) - 1) (xs ++ y ∷ []) ≡ xs
take-push xs y = let e : length (xs ++ y ∷ []) - 1 ≡ length xs = omega (arith, length-append xs (y ∷ [])) in ap (λ n. take n (xs ++ y ∷ [])) e ∙ take-append_seam xs (y ∷ [])

pub length-take_last : {A : Type 0} (xs : List A) → length (take (length xs - 1) xs) ≡ length xs - 1
length-take_last xs = length-take-le (length xs - 1) xs (omega arith)

-- what holds in any case holds where there is an error
pub on_err : {T E : Type 0} (r : Result T E) (P : Type 0) → P → OnErr r P
on_err (Ok x) P p = tt
on_err (Err e) P p = p
