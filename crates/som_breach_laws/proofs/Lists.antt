-- The first of a list that fails a test, with its place, and the first of lists that are joined.
use Rattle.std.proofs.Common.{◌≡◌, ℕ, zero, suc, ◌<◌, ◌+◌, ◌⊎◌, inl, inr, Bool, true, false, if◌then◌else◌, List, [], ◌∷◌, ◌++◌, map, flat_map, Option, Some, None, slice_get, refl, sym, ap, ◌∙◌, subst, arith, true≢false}
use Rattle.std.specs.Str.{bytes_eq}
use Rattle.som_model.specs.Lists.{Mem, first, option_list, or_else}
use Rattle.som_model.specs.Compatible.{failing, first_changed}
use Rattle.som_model.proofs.KeyLaws.{exact_bytes}
use Rattle.som_model_laws.proofs.Members.{not_true}
use Rattle.som_breach_laws.specs.Firsts.{HoldsOfEach, IsFirstAt}

-- ---- lists that are joined

pub first_split : {B : Type 0} (xs ys : List B) (b : B) → first (xs ++ ys) ≡ Some b → (first xs ≡ Some b) ⊎ ((xs ≡ []) × (first ys ≡ Some b))
first_split [] ys b e = inr (refl, e)
first_split (x ∷ xs) ys b e = inl e

pub first_left : {B : Type 0} (xs ys : List B) (b : B) → first xs ≡ Some b → first (xs ++ ys) ≡ Some b
first_left [] ys b e = absurd (cc)
first_left (x ∷ xs) ys b e = e

pub first_right : {B : Type 0} (xs ys : List B) (b : B) → xs ≡ [] → first ys ≡ Some b → first (xs ++ ys) ≡ Some b
first_right [] ys b e f = f
first_right (x ∷ xs) ys b e f = absurd (cc)

pub none_left : {A : Type 0} (xs ys : List A) → (xs ++ ys) ≡ [] → (xs ≡ []) × (ys ≡ [])
none_left [] ys e = (refl, e)
none_left (x ∷ xs) ys e = absurd (cc)

pub none_both : {A : Type 0} (xs ys : List A) → xs ≡ [] → ys ≡ [] → (xs ++ ys) ≡ []
none_both [] ys e f = f
none_both (x ∷ xs) ys e f = absurd (cc)

-- what a list of lists begins with: the first of one of them, where those before it are empty
pub record FirstOf {A B : Type 0} (f : A → List B) (xs : List A) (b : B) : Type 0 where
  pub number : ℕ
  pub item : A
  pub there : slice_get xs number ≡ Some item
  pub before : (i : ℕ) (y : A) → i < number → slice_get xs i ≡ Some y → f y ≡ []
  pub begins : first (f item) ≡ Some b

empty_more : {A B : Type 0} (f : A → List B) (x : A) (xs : List A) (n : ℕ) → f x ≡ [] → ((i : ℕ) (y : A) → i < n → slice_get xs i ≡ Some y → f y ≡ [])
    → (i : ℕ) (y : A) → i < suc n → slice_get (x ∷ xs) i ≡ Some y → f y ≡ []
empty_more f x xs n e g zero y lt at = let same : x ≡ y = cc in ap f (sym same) ∙ e
empty_more f x xs n e g (suc i) y lt at = g i y (omega (arith, lt)) at

none_before : {A B : Type 0} (f : A → List B) (x : A) (xs : List A) (i : ℕ) (y : A) → i < 0 → slice_get (x ∷ xs) i ≡ Some y → f y ≡ []
none_before f x xs i y lt at = absurd (omega (arith, lt))

pub flat_first : {A B : Type 0} (f : A → List B) (xs : List A) (b : B) → first (flat_map f xs) ≡ Some b → FirstOf f xs b
flat_first f [] b e = absurd (cc)
flat_first f (x ∷ xs) b e = elim (first_split (f x) (flat_map f xs) b e) [
  | inl g ↦ record { number = 0; item = x; there = refl; before = none_before f x xs; begins = g }
  | inr g ↦ (
      let r = flat_first f xs b g.1 in
      record { number = suc r.number; item = r.item; there = r.there; before = empty_more f x xs r.number g.0 r.before; begins = r.begins })
]

pub first_flat : {A B : Type 0} (f : A → List B) (xs : List A) (b : B) (n : ℕ) (x : A) → slice_get xs n ≡ Some x → ((i : ℕ) (y : A) → i < n → slice_get xs i ≡ Some y → f y ≡ []) → first (f x) ≡ Some b
    → first (flat_map f xs) ≡ Some b
first_flat f [] b n x at g e = absurd (cc)
first_flat f (y ∷ ys) b zero x at g e = let same : y ≡ x = cc in first_left (f y) (flat_map f ys) b (ap (λ z. first (f z)) same ∙ e)
first_flat f (y ∷ ys) b (suc n) x at g e = first_right (f y) (flat_map f ys) b (g 0 y (omega arith) refl) (first_flat f ys b n x at (λ i z lt h. g (suc i) z (omega (arith, lt)) h) e)

first_empty : {B : Type 0} (xs ys : List B) → first (xs ++ ys) ≡ None → (xs ≡ []) × (first ys ≡ None)
first_empty [] ys e = (refl, e)
first_empty (x ∷ xs) ys e = absurd (cc)

pub flat_none : {A B : Type 0} (f : A → List B) (xs : List A) → first (flat_map f xs) ≡ None → (y : A) → Mem y xs → f y ≡ []
flat_none f [] e y m = absurd m
flat_none f (x ∷ xs) e y (inl same) = ap f same ∙ (first_empty (f x) (flat_map f xs) e).0
flat_none f (x ∷ xs) e y (inr m) = flat_none f xs (first_empty (f x) (flat_map f xs) e).1 y m

pub none_flat : {A B : Type 0} (f : A → List B) (xs : List A) → ((y : A) → Mem y xs → f y ≡ []) → first (flat_map f xs) ≡ None
none_flat f [] g = refl
none_flat f (x ∷ xs) g = ap (λ z. first (z ++ flat_map f xs)) (g x (inl refl)) ∙ none_flat f xs (λ y m. g y (inr m))

-- ---- lists that a function is applied to

pub map_none : {A B : Type 0} (f : A → B) (xs : List A) → map f xs ≡ [] → xs ≡ []
map_none f [] e = refl
map_none f (x ∷ xs) e = absurd (cc)

pub first_map : {A B : Type 0} (f : A → B) (xs : List A) (b : B) → first (map f xs) ≡ Some b → (x : A) × (first xs ≡ Some x) × (b ≡ f x)
first_map f [] b e = absurd (cc)
first_map f (x ∷ xs) b e = (x, refl, cc)

pub map_first : {A B : Type 0} (f : A → B) (xs : List A) (x : A) → first xs ≡ Some x → first (map f xs) ≡ Some (f x)
map_first f [] x e = absurd (cc)
map_first f (y ∷ xs) x e = let same : y ≡ x = cc in ap (λ z. Some (f z)) same

-- ---- those that fail a test

pub some_one : {A : Type 0} (x y : A) → Some x ≡ Some y → x ≡ y
some_one x y e = cc

module _ {A : Type 0} (P : ℕ → A → Type 0) where
  -- P of each, a place further
  abbrev pub Next : ℕ → A → Type 0
  Next i y = P (suc i) y

  pub holds_more : (x : A) (xs : List A) → P 0 x → HoldsOfEach Next xs → HoldsOfEach P (x ∷ xs)
  holds_more x xs p h zero y at = subst (P 0) (some_one x y at) p
  holds_more x xs p h (suc i) y at = h i y at

  before_more : (x : A) (xs : List A) (n : ℕ) → P 0 x → ((i : ℕ) (y : A) → i < n → slice_get xs i ≡ Some y → Next i y) → (i : ℕ) (y : A) → i < suc n → slice_get (x ∷ xs) i ≡ Some y → P i y
  before_more x xs n p h zero y lt at = subst (P 0) (some_one x y at) p
  before_more x xs n p h (suc i) y lt at = h i y (omega (arith, lt)) at

  pub first_here : (x : A) (xs : List A) → (P 0 x → ⊥) → IsFirstAt P (x ∷ xs) 0 x
  first_here x xs f = record { there = refl; fails = f; before = λ i y lt. absurd (omega (arith, lt)) }

  pub first_later : (x : A) (xs : List A) (n : ℕ) (y : A) → P 0 x → IsFirstAt Next xs n y → IsFirstAt P (x ∷ xs) (suc n) y
  first_later x xs n y p r = record { there = r.there; fails = r.fails; before = before_more x xs n p r.before }

  pub later_first : (x : A) (xs : List A) (n : ℕ) (y : A) → IsFirstAt P (x ∷ xs) (suc n) y → IsFirstAt Next xs n y
  later_first x xs n y r = record { there = r.there; fails = r.fails; before = λ i z lt at. r.before (suc i) z (omega (arith, lt)) at }

-- a place, the item there, and that it is told with its place counted from n
pub record ToldAt {A : Type 0} (P : ℕ → A → Type 0) (xs : List A) (n : ℕ) (p : A × ℕ) : Type 0 where
  pub place : ℕ
  pub counted : p.1 ≡ n + place
  pub is_first : IsFirstAt P xs place p.0

told_here : {A : Type 0} (P : ℕ → A → Type 0) (x : A) (xs : List A) (n : ℕ) (p : A × ℕ) → (P 0 x → ⊥) → Some (x, n) ≡ Some p → ToldAt P (x ∷ xs) n p
told_here P x xs n p f e =
    let same = some_one (x, n) p e in
    let none : n ≡ n + 0 = omega arith in
    subst (ToldAt P (x ∷ xs) n) same (record { place = 0; counted = none; is_first = first_here P x xs f })

told_later : {A : Type 0} (P : ℕ → A → Type 0) (x : A) (xs : List A) (n : ℕ) (p : A × ℕ) → P 0 x → ToldAt (Next P) xs (n + 1) p → ToldAt P (x ∷ xs) n p
told_later P x xs n p h r =
    let is = r.counted in
    record { place = suc r.place; counted = omega (arith, is); is_first = first_later P x xs r.place p.0 h r.is_first }

module _ {A : Type 0} (test : A → Bool) (P : A → Type 0) (yes : (x : A) → test x ≡ true → P x) (no : (x : A) → P x → test x ≡ true) where
  abbrev pub At : ℕ → A → Type 0
  At i x = P x

  fails_by : (n : ℕ) (x : A) (xs : List A) (p : A × ℕ) (b : Bool) → test x ≡ b → (first (failing test (n + 1) xs) ≡ Some p → ToldAt At xs (n + 1) p)
      → first (if b then failing test (n + 1) xs else (x, n) ∷ failing test (n + 1) xs) ≡ Some p → ToldAt At (x ∷ xs) n p
  fails_by n x xs p true t f e = told_later At x xs n p (yes x t) (f e)
  fails_by n x xs p false t f e = told_here At x xs n p (λ h. true≢false (sym (no x h) ∙ t)) e

  pub first_fails : (n : ℕ) (xs : List A) (p : A × ℕ) → first (failing test n xs) ≡ Some p → ToldAt At xs n p
  first_fails n [] p e = absurd (cc)
  first_fails n (x ∷ xs) p e = fails_by n x xs p (test x) refl (first_fails (n + 1) xs p) e

  pub fails_first : (n : ℕ) (xs : List A) (i : ℕ) (x : A) → IsFirstAt At xs i x → first (failing test n xs) ≡ Some (x, n + i)
  fails_first n [] i x r = absurd (let e = r.there in cc)
  fails_first n (y ∷ ys) zero x r =
      let same = some_one y x r.there in
      let here : test y ≡ false = not_true (test y) (λ t. r.fails (yes x (ap test (sym same) ∙ t))) in
      let none : n ≡ n + 0 = omega arith in
      rw here (ap (λ z. Some (z, n)) same ∙ ap (λ k. Some (x, k)) none)
  fails_first n (y ∷ ys) (suc i) x r =
      let here : test y ≡ true = no y (r.before 0 y (omega arith) refl) in
      let sum : (n + 1) + i ≡ n + suc i = omega arith in
      rw here (fails_first (n + 1) ys i x (later_first At y ys i x r) ∙ ap (λ k. Some (x, k)) sum)

  none_by : (n : ℕ) (x : A) (xs : List A) (b : Bool) → test x ≡ b → (failing test (n + 1) xs ≡ [] → HoldsOfEach At xs)
      → (if b then failing test (n + 1) xs else (x, n) ∷ failing test (n + 1) xs) ≡ [] → HoldsOfEach At (x ∷ xs)
  none_by n x xs true t f e = holds_more At x xs (yes x t) (f e)
  none_by n x xs false t f e = absurd (cc)

  pub none_fails : (n : ℕ) (xs : List A) → failing test n xs ≡ [] → HoldsOfEach At xs
  none_fails n [] e i y at = absurd (cc)
  none_fails n (x ∷ xs) e i y at = none_by n x xs (test x) refl (none_fails (n + 1) xs) e i y at

  pub fails_none : (n : ℕ) (xs : List A) → HoldsOfEach At xs → failing test n xs ≡ []
  fails_none n [] h = refl
  fails_none n (x ∷ xs) h = let here : test x ≡ true = no x (h 0 x refl) in rw here (fails_none (n + 1) xs (λ i y at. h (suc i) y at))

-- ---- names that don't stand at their places

-- a name stands at its place in a list
abbrev pub Stands : List (List ℕ) → ℕ → List ℕ → Type 0
Stands ys i x = slice_get ys i ≡ Some x

nothing_there : (i : ℕ) (x : List ℕ) → Stands [] i x → ⊥
nothing_there i x e = cc

changes_by : (n : ℕ) (x y : List ℕ) (xs ys : List (List ℕ)) (p : List ℕ × ℕ) (b : Bool) → bytes_eq x y ≡ b → (first (first_changed (n + 1) xs ys) ≡ Some p → ToldAt (Stands ys) xs (n + 1) p)
    → first (if b then first_changed (n + 1) xs ys else (x, n) ∷ []) ≡ Some p → ToldAt (Stands (y ∷ ys)) (x ∷ xs) n p
changes_by n x y xs ys p true t f e = told_later (Stands (y ∷ ys)) x xs n p (ap (λ z. Some z) (sym (exact_bytes.two x y t))) (f e)
changes_by n x y xs ys p false t f e = told_here (Stands (y ∷ ys)) x xs n p (λ h. true≢false (sym (ap (bytes_eq x) (some_one y x h) ∙ exact_bytes.one x) ∙ t)) e

pub first_changes : (n : ℕ) (xs ys : List (List ℕ)) (p : List ℕ × ℕ) → first (first_changed n xs ys) ≡ Some p → ToldAt (Stands ys) xs n p
first_changes n [] ys p e = absurd (cc)
first_changes n (x ∷ xs) [] p e = told_here (Stands []) x xs n p (nothing_there 0 x) e
first_changes n (x ∷ xs) (y ∷ ys) p e = changes_by n x y xs ys p (bytes_eq x y) refl (first_changes (n + 1) xs ys p) e

pub changes_first : (n : ℕ) (xs ys : List (List ℕ)) (i : ℕ) (x : List ℕ) → IsFirstAt (Stands ys) xs i x → first (first_changed n xs ys) ≡ Some (x, n + i)
changes_first n [] ys i x r = absurd (let e = r.there in cc)
changes_first n (z ∷ xs) [] zero x r = let none : n ≡ n + 0 = omega arith in ap (λ w. Some (w, n)) (some_one z x r.there) ∙ ap (λ k. Some (x, k)) none
changes_first n (z ∷ xs) [] (suc i) x r = absurd (nothing_there 0 z (r.before 0 z (omega arith) refl))
changes_first n (z ∷ xs) (y ∷ ys) zero x r =
    let same = some_one z x r.there in
    let here : bytes_eq z y ≡ false = not_true (bytes_eq z y) (λ t. r.fails (ap (λ w. Some w) (sym (exact_bytes.two z y t) ∙ same))) in
    let none : n ≡ n + 0 = omega arith in
    rw here (ap (λ w. Some (w, n)) same ∙ ap (λ k. Some (x, k)) none)
changes_first n (z ∷ xs) (y ∷ ys) (suc i) x r =
    let same = some_one y z (r.before 0 z (omega arith) refl) in
    let here : bytes_eq z y ≡ true = ap (bytes_eq z) same ∙ exact_bytes.one z in
    let sum : (n + 1) + i ≡ n + suc i = omega arith in
    rw here (changes_first (n + 1) xs ys i x (later_first (Stands (y ∷ ys)) z xs i x r) ∙ ap (λ k. Some (x, k)) sum)

unchanged_by : (n : ℕ) (x y : List ℕ) (xs ys : List (List ℕ)) (b : Bool) → bytes_eq x y ≡ b → (first_changed (n + 1) xs ys ≡ [] → HoldsOfEach (Stands ys) xs)
    → (if b then first_changed (n + 1) xs ys else (x, n) ∷ []) ≡ [] → HoldsOfEach (Stands (y ∷ ys)) (x ∷ xs)
unchanged_by n x y xs ys true t f e = holds_more (Stands (y ∷ ys)) x xs (ap (λ z. Some z) (sym (exact_bytes.two x y t))) (f e)
unchanged_by n x y xs ys false t f e = absurd (cc)

pub none_changes : (n : ℕ) (xs ys : List (List ℕ)) → first_changed n xs ys ≡ [] → HoldsOfEach (Stands ys) xs
none_changes n [] ys e i y at = absurd (cc)
none_changes n (x ∷ xs) [] e i y at = absurd (cc)
none_changes n (x ∷ xs) (z ∷ ys) e i y at = unchanged_by n x z xs ys (bytes_eq x z) refl (none_changes (n + 1) xs ys) e i y at

pub changes_none : (n : ℕ) (xs ys : List (List ℕ)) → HoldsOfEach (Stands ys) xs → first_changed n xs ys ≡ []
changes_none n [] ys h = refl
changes_none n (x ∷ xs) [] h = absurd (nothing_there 0 x (h 0 x refl))
changes_none n (x ∷ xs) (y ∷ ys) h =
    let here : bytes_eq x y ≡ true = ap (bytes_eq x) (some_one y x (h 0 x refl)) ∙ exact_bytes.one x in
    rw here (changes_none (n + 1) xs ys (λ i z at. h (suc i) z at))

-- ---- what an option holds

pub or_none : {A : Type 0} (o p : Option A) → or_else o p ≡ None → (o ≡ None) × (p ≡ None)
or_none None p e = (refl, e)
or_none (Some x) p e = absurd (cc)

pub option_at : {A : Type 0} (o : Option A) (i : ℕ) (x : A) → slice_get (option_list o) i ≡ Some x → (i ≡ 0) × (o ≡ Some x)
option_at None i x e = absurd (cc)
option_at (Some y) zero x e = (refl, e)
option_at (Some y) (suc i) x e = absurd (cc)

pub at_option : {A : Type 0} (o : Option A) (x : A) → o ≡ Some x → slice_get (option_list o) 0 ≡ Some x
at_option None x e = absurd (cc)
at_option (Some y) x e = e
