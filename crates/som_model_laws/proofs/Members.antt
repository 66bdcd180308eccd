-- Members of lists: what joining, leaving out and first occurrences keep, and what tests on a list say.
use Rattle.std.proofs.Common.{◌≡◌, ◌⊎◌, inl, inr, Bool, true, false, if◌then◌else◌, List, [], ◌∷◌, ◌++◌, map, Option, Some, None, IsSome, refl, sym, ap, ◌∙◌, subst, true≢false}
use Rattle.std.specs.Option.{option_and_then}
use Rattle.som_model.specs.Lists.{Mem, without, firsts, joined, or_else, first_some, find, some, doubles}
use Rattle.som_model_laws.specs.First.{IsFirst}
use Rattle.som_model_laws.specs.Added.{IsThinned, nothing, kept, left_out}

pub mem_left : {A : Type 0} (a : A) (xs ys : List A) → Mem a xs → Mem a (xs ++ ys)
mem_left a (x ∷ xs) ys (inl e) = inl e
mem_left a (x ∷ xs) ys (inr m) = inr (mem_left a xs ys m)
mem_left a [] ys m = absurd m

pub mem_right : {A : Type 0} (a : A) (xs ys : List A) → Mem a ys → Mem a (xs ++ ys)
mem_right a [] ys m = m
mem_right a (x ∷ xs) ys m = inr (mem_right a xs ys m)

pub mem_split : {A : Type 0} (a : A) (xs ys : List A) → Mem a (xs ++ ys) → Mem a xs ⊎ Mem a ys
mem_split a [] ys m = inr m
mem_split a (x ∷ xs) ys (inl e) = inl (inl e)
mem_split a (x ∷ xs) ys (inr m) = elim (mem_split a xs ys m) [ inl k ↦ inl (inr k) | inr k ↦ inr k ]

pub mem_joined : {A B : Type 0} (f : A → List B) (b : B) (a : A) (xs : List A) → Mem a xs → Mem b (f a) → Mem b (joined (map f xs))
mem_joined f b a [] m k = absurd m
mem_joined f b a (x ∷ xs) (inl e) k = mem_left b (f x) _ (subst (λ z. Mem b (f z)) e k)
mem_joined f b a (x ∷ xs) (inr m) k = mem_right b (f x) _ (mem_joined f b a xs m k)

pub joined_mem : {A B : Type 0} (f : A → List B) (b : B) (xs : List A) → Mem b (joined (map f xs)) → (a : A) × Mem a xs × Mem b (f a)
joined_mem f b [] m = absurd m
joined_mem f b (x ∷ xs) m = elim (mem_split b (f x) (joined (map f xs)) m) [ inl k ↦ (x, inl refl, k) | inr k ↦ (let r = joined_mem f b xs k in (r.0, inr r.1, r.2)) ]

pub no_members : {A : Type 0} (xs : List A) → ((a : A) → Mem a xs → ⊥) → xs ≡ []
no_members [] f = refl
no_members (x ∷ xs) f = absurd (f x (inl refl))

-- functions that agree on the members
pub map_on : {A B : Type 0} (f g : A → B) (xs : List A) → ((a : A) → Mem a xs → f a ≡ g a) → map f xs ≡ map g xs
map_on f g [] e = refl
map_on f g (x ∷ xs) e = ap (λ y. y ∷ map f xs) (e x (inl refl)) ∙ ap (λ l. g x ∷ l) (map_on f g xs (λ a m. e a (inr m)))

-- what stays of x ∷ xs, by the test's answer at x
kept_mem : {A : Type 0} (b : Bool) (a x : A) (ys xs : List A) → (Mem a ys → Mem a xs) → Mem a (if b then ys else x ∷ ys) → Mem a (x ∷ xs)
kept_mem true a x ys xs f m = inr (f m)
kept_mem false a x ys xs f (inl e) = inl e
kept_mem false a x ys xs f (inr m) = inr (f m)

pub without_mem : {A : Type 0} (test : A → Bool) (a : A) (xs : List A) → Mem a (without test xs) → Mem a xs
without_mem test a [] m = m
without_mem test a (x ∷ xs) m = kept_mem (test x) a x (without test xs) xs (without_mem test a xs) m

failing_by : {A : Type 0} (test : A → Bool) (a x : A) (ys : List A) (b : Bool) → test x ≡ b → (Mem a ys → test a ≡ false) → Mem a (if b then ys else x ∷ ys) → test a ≡ false
failing_by test a x ys true t f m = f m
failing_by test a x ys false t f (inl e) = ap test e ∙ t
failing_by test a x ys false t f (inr m) = f m

-- what stays fails the test
pub without_fails : {A : Type 0} (test : A → Bool) (a : A) (xs : List A) → Mem a (without test xs) → test a ≡ false
without_fails test a [] m = absurd m
without_fails test a (x ∷ xs) m = failing_by test a x (without test xs) (test x) refl (without_fails test a xs) m

mem_stays : {A : Type 0} (b : Bool) (a x : A) (ys : List A) → (b ≡ true → a ≡ x → ⊥) → (a ≡ x) ⊎ Mem a ys → Mem a (if b then ys else x ∷ ys)
mem_stays true a x ys f (inl e) = absurd (f refl e)
mem_stays true a x ys f (inr m) = m
mem_stays false a x ys f m = m

-- a member that fails the test stays
pub mem_without : {A : Type 0} (test : A → Bool) (a : A) (xs : List A) → (test a ≡ true → ⊥) → Mem a xs → Mem a (without test xs)
mem_without test a [] f m = m
mem_without test a (x ∷ xs) f (inl e) = mem_stays (test x) a x (without test xs) (λ t e. f (ap test e ∙ t)) (inl e)
mem_without test a (x ∷ xs) f (inr m) = mem_stays (test x) a x (without test xs) (λ t e. f (ap test e ∙ t)) (inr (mem_without test a xs f m))

thinned_by : {A : Type 0} (b : Bool) (x : A) (xs ys : List A) → IsThinned ys xs → IsThinned (if b then ys else x ∷ ys) (x ∷ xs)
thinned_by true x xs ys t = left_out x t
thinned_by false x xs ys t = kept x t

-- what stays is in its order
pub without_thins : {A : Type 0} (test : A → Bool) (xs : List A) → IsThinned (without test xs) xs
without_thins test [] = nothing
without_thins test (x ∷ xs) = thinned_by (test x) x xs (without test xs) (without_thins test xs)

pub firsts_mem : {A : Type 0} (same : A → A → Bool) (a : A) (xs : List A) → Mem a (firsts same xs) → Mem a xs
firsts_mem same a [] m = m
firsts_mem same a (x ∷ xs) (inl e) = inl e
firsts_mem same a (x ∷ xs) (inr m) = inr (firsts_mem same a xs (without_mem (same x) a (firsts same xs) m))

or_true : (b c : Bool) → c ≡ true → (if b then true else c) ≡ true
or_true true c e = refl
or_true false c e = e

-- some member passes where this one does
pub mem_some : {A : Type 0} (test : A → Bool) (a : A) (xs : List A) → Mem a xs → test a ≡ true → some test xs ≡ true
mem_some test a [] m t = absurd m
mem_some test a (x ∷ xs) (inl e) t = let here : test x ≡ true = subst (λ z. test z ≡ true) e t in rw here refl
mem_some test a (x ∷ xs) (inr m) t = or_true (test x) (some test xs) (mem_some test a xs m t)

some_by : {A : Type 0} (test : A → Bool) (x : A) (xs : List A) (b : Bool) → test x ≡ b → (some test xs ≡ true → (a : A) × Mem a xs × (test a ≡ true))
    → (if b then true else some test xs) ≡ true → (a : A) × Mem a (x ∷ xs) × (test a ≡ true)
some_by test x xs true t f e = (x, inl refl, t)
some_by test x xs false t f e = let r = f e in (r.0, inr r.1, r.2)

-- the member that passes, where some does
pub some_mem : {A : Type 0} (test : A → Bool) (xs : List A) → some test xs ≡ true → (a : A) × Mem a xs × (test a ≡ true)
some_mem test [] e = absurd (true≢false (sym e))
some_mem test (x ∷ xs) e = some_by test x xs (test x) refl (some_mem test xs) e

-- tests that agree on the members
pub some_on : {A : Type 0} (f g : A → Bool) (xs : List A) → ((a : A) → Mem a xs → f a ≡ g a) → some f xs ≡ some g xs
some_on f g [] e = refl
some_on f g (x ∷ xs) e = ap (λ (b : Bool). if b then true else some f xs) (e x (inl refl)) ∙ ap (λ (b : Bool). if g x then true else b) (some_on f g xs (λ a m. e a (inr m)))

-- two answers that are true together are one
pub both_or_none : (b c : Bool) → (b ≡ true → c ≡ true) → (c ≡ true → b ≡ true) → b ≡ c
both_or_none true c f g = sym (f refl)
both_or_none false true f g = g refl
both_or_none false false f g = refl

-- a test that is not true is false
pub not_true : (b : Bool) → (b ≡ true → ⊥) → b ≡ false
not_true true f = absurd (f refl)
not_true false f = refl

-- a list where no member stands twice
abbrev pub Apart : {A : Type 0} → List A → Type 0
Apart [] = Unit {0}
Apart (x ∷ xs) = (Mem x xs → ⊥) × Apart xs

apart_by : {A : Type 0} (b : Bool) (x : A) (ys : List A) → (Mem x ys → ⊥) → Apart ys → Apart (if b then ys else x ∷ ys)
apart_by true x ys n d = d
apart_by false x ys n d = (n, d)

without_apart : {A : Type 0} (test : A → Bool) (xs : List A) → Apart xs → Apart (without test xs)
without_apart test [] d = d
without_apart test (x ∷ xs) d = apart_by (test x) x (without test xs) (λ m. d.0 (without_mem test x xs m)) (without_apart test xs d.1)

-- first occurrences stand once
pub firsts_apart : {A : Type 0} (same : A → A → Bool) → ((x : A) → same x x ≡ true) → (xs : List A) → Apart (firsts same xs)
firsts_apart same one [] = tt
firsts_apart same one (x ∷ xs) = (
  (λ m. true≢false (sym (one x) ∙ without_fails (same x) x (firsts same xs) m)),
  without_apart (same x) (firsts same xs) (firsts_apart same one xs),
)

-- where no member stands twice, or stood before, none is a double
pub apart_doubles : {A : Type 0} (same : A → A → Bool) → ((x y : A) → same x y ≡ true → x ≡ y) → (before xs : List A)
    → ((a : A) → Mem a before → Mem a xs → ⊥) → Apart xs → doubles same before xs ≡ []
apart_doubles same two before [] f d = refl
apart_doubles same two before (x ∷ xs) f d =
    let new : some (same x) before ≡ false = not_true (some (same x) before) (λ e.
    let r = some_mem (same x) before e in f r.0 r.1 (inl (sym (two x r.0 r.2)))) in
    ap (λ (b : Bool). if b then x ∷ doubles same before xs else doubles same (before ++ x ∷ []) xs) new
    ∙ apart_doubles same two (before ++ x ∷ []) xs (λ a m k. elim (mem_split a before (x ∷ []) m) [
      | inl n ↦ f a n (inr k)
      | inr n ↦ elim n [ inl e ↦ d.0 (subst (λ z. Mem z xs) e k) | inr n ↦ absurd n ]
    ]) d.1

found_by : {A : Type 0} (test : A → Bool) (x : A) (xs : List A) (a : A) (b : Bool) → test x ≡ b → (find test xs ≡ Some a → IsFirst test xs a)
    → (if b then Some x else find test xs) ≡ Some a → IsFirst test (x ∷ xs) a
found_by test x xs a true t f e =
    let here : x ≡ a = cc in
    record { before = []; after = xs; parts = ap (λ z. z ∷ xs) here; passes = subst (λ z. test z ≡ true) here t; earlier = λ b m. absurd m }
found_by test x xs a false t f e =
    let r = f e in
    record { before = x ∷ r.before; after = r.after; parts = ap (λ l. x ∷ l) r.parts; passes = r.passes; earlier = λ b m. elim m [ inl e ↦ ap test e ∙ t | inr k ↦ r.earlier b k ] }

pub find_first : {A : Type 0} (test : A → Bool) (xs : List A) (a : A) → find test xs ≡ Some a → IsFirst test xs a
find_first test [] a e = absurd (cc)
find_first test (x ∷ xs) a e = found_by test x xs a (test x) refl (find_first test xs a) e

find_past : {A : Type 0} (test : A → Bool) (before after : List A) (a : A) → test a ≡ true → ((b : A) → Mem b before → test b ≡ false) → find test (before ++ a ∷ after) ≡ Some a
find_past test [] after a t f = rw t refl
find_past test (x ∷ before) after a t f = let fails : test x ≡ false = f x (inl refl) in rw fails (find_past test before after a t (λ b m. f b (inr m)))

pub first_find : {A : Type 0} (test : A → Bool) (xs : List A) (a : A) → IsFirst test xs a → find test xs ≡ Some a
first_find test xs a r = ap (find test) r.parts ∙ find_past test r.before r.after a r.passes r.earlier

none_by : {A : Type 0} (test : A → Bool) (x a : A) (xs : List A) (b : Bool) → test x ≡ b → (find test xs ≡ None → Mem a xs → test a ≡ false)
    → (if b then Some x else find test xs) ≡ None → Mem a (x ∷ xs) → test a ≡ false
none_by test x a xs true t f e m = absurd (cc)
none_by test x a xs false t f e (inl is) = ap test is ∙ t
none_by test x a xs false t f e (inr m) = f e m

pub find_none : {A : Type 0} (test : A → Bool) (xs : List A) → find test xs ≡ None → (a : A) → Mem a xs → test a ≡ false
find_none test [] e a m = absurd m
find_none test (x ∷ xs) e a m = none_by test x a xs (test x) refl (λ e. find_none test xs e a) e m

pub none_find : {A : Type 0} (test : A → Bool) (xs : List A) → ((a : A) → Mem a xs → test a ≡ false) → find test xs ≡ None
none_find test [] f = refl
none_find test (x ∷ xs) f = let fails : test x ≡ false = f x (inl refl) in rw fails (none_find test xs (λ a m. f a (inr m)))

some_or : {B : Type 0} (o r : Option B) → IsSome r → IsSome (or_else o r)
some_or None r s = s
some_or (Some y) r s = refl

some_here : {B : Type 0} (o r : Option B) → IsSome o → IsSome (or_else o r)
some_here None r s = absurd (true≢false (sym s))
some_here (Some y) r s = refl

pub first_there : {A B : Type 0} (f : A → Option B) (a : A) (xs : List A) → Mem a xs → IsSome (f a) → IsSome (first_some f xs)
first_there f a [] m s = absurd m
first_there f a (x ∷ xs) (inl e) s = some_here (f x) _ (subst (λ z. IsSome (f z)) e s)
first_there f a (x ∷ xs) (inr m) s = some_or (f x) _ (first_there f a xs m s)

pub first_on : {A B : Type 0} (f g : A → Option B) (xs : List A) → ((a : A) → Mem a xs → f a ≡ g a) → first_some f xs ≡ first_some g xs
first_on f g [] e = refl
first_on f g (x ∷ xs) e = ap (λ o. or_else o (first_some f xs)) (e x (inl refl)) ∙ ap (or_else (g x)) (first_on f g xs (λ a m. e a (inr m)))

pub first_none : {A B : Type 0} (f : A → Option B) (xs : List A) → ((a : A) → Mem a xs → f a ≡ None) → first_some f xs ≡ None
first_none f [] e = refl
first_none f (x ∷ xs) e = ap (λ o. or_else o (first_some f xs)) (e x (inl refl)) ∙ first_none f xs (λ a m. e a (inr m))

some_from : {A B : Type 0} (f : A → Option B) (x : A) (xs : List A) (b : B) (o : Option B) → f x ≡ o → (first_some f xs ≡ Some b → (a : A) × Mem a xs × (f a ≡ Some b))
    → or_else o (first_some f xs) ≡ Some b → (a : A) × Mem a (x ∷ xs) × (f a ≡ Some b)
some_from f x xs b None is g e = let r = g e in (r.0, inr r.1, r.2)
some_from f x xs b (Some y) is g e = (x, inl refl, is ∙ e)

-- the member that the first answer is of
pub first_from : {A B : Type 0} (f : A → Option B) (xs : List A) (b : B) → first_some f xs ≡ Some b → (a : A) × Mem a xs × (f a ≡ Some b)
first_from f [] b e = absurd (cc)
first_from f (x ∷ xs) b e = some_from f x xs b (f x) refl (first_from f xs b) e

own_answer : {B : Type 0} (o r : Option B) → IsSome o → or_else o r ≡ o
own_answer None r s = absurd (true≢false (sym s))
own_answer (Some y) r s = refl

chosen_by : {A B : Type 0} (test : A → Bool) (f : A → Option B) (x : A) (xs : List A) (b : Bool) → test x ≡ b → (test x ≡ true → IsSome (f x))
    → first_some (λ a. if test a then f a else None) xs ≡ option_and_then f (find test xs)
    → or_else (if b then f x else None) (first_some (λ a. if test a then f a else None) xs) ≡ option_and_then f (if b then Some x else find test xs)
chosen_by test f x xs true t s e = own_answer (f x) _ (s t)
chosen_by test f x xs false t s e = e

-- where each that passes has an answer, the first that passes gives it
pub first_chosen : {A B : Type 0} (test : A → Bool) (f : A → Option B) (xs : List A) → ((a : A) → Mem a xs → test a ≡ true → IsSome (f a))
    → first_some (λ a. if test a then f a else None) xs ≡ option_and_then f (find test xs)
first_chosen test f [] s = refl
first_chosen test f (x ∷ xs) s = chosen_by test f x xs (test x) refl (s x (inl refl)) (first_chosen test f xs (λ a m. s a (inr m)))
