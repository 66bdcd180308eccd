-- Where something stands in a list: the first place that passes a test.
use Rattle.std.proofs.Common.{◌≡◌, ℕ, zero, suc, ◌+◌, ◌<◌, Bool, true, false, if◌then◌else◌, true≢false, List, [], ◌∷◌, ◌++◌, length, map, get_or, Option, Some, refl, sym, ap, subst, ◌∙◌, arith}
use Rattle.std.specs.Prelude.{All}
use Rattle.std.specs.List.{AllByRecursion, IsDistinct}
use Rattle.std.specs.Str.{bytes_eq}
use Rattle.std.proofs.lemmas.List.Elements.{All-get_or}
use Rattle.som_model.specs.Lists.{place_from, find, some, doubles}
use Rattle.som_model.proofs.KeyLaws.{Exact, exact_bytes}

-- ---- all of a list

pub all_map : {A : Type 0} (P Q : A → Type 0) → ((x : A) → P x → Q x) → (xs : List A) → AllByRecursion P xs → AllByRecursion Q xs
all_map P Q f [] h = tt
all_map P Q f (x ∷ xs) h = (f x h.0, all_map P Q f xs h.1)

pub all_of : {A : Type 0} (P : A → Type 0) → ((x : A) → P x) → (xs : List A) → AllByRecursion P xs
all_of P f [] = tt
all_of P f (x ∷ xs) = (f x, all_of P f xs)

pub all_at : {A : Type 0} (P : A → Type 0) (xs : List A) (i : ℕ) (d : A) → i < length xs → AllByRecursion P xs → P (get_or xs i d)
all_at P [] i d lt h = absurd (omega arith)
all_at P (x ∷ xs) zero d lt h = h.0
all_at P (x ∷ xs) (suc i) d lt h = all_at P xs i d (omega arith) h.1

pub all_mapped : {A B : Type 0} (P : B → Type 0) (f : A → B) (xs : List A) → AllByRecursion (λ x. P (f x)) xs → AllByRecursion P (map f xs)
all_mapped P f [] h = tt
all_mapped P f (x ∷ xs) h = (h.0, all_mapped P f xs h.1)

pub all_unmapped : {A B : Type 0} (P : B → Type 0) (f : A → B) (xs : List A) → AllByRecursion P (map f xs) → AllByRecursion (λ x. P (f x)) xs
all_unmapped P f [] h = tt
all_unmapped P f (x ∷ xs) h = (h.0, all_unmapped P f xs h.1)

pub all_joined : {A : Type 0} (P : A → Type 0) (xs ys : List A) → AllByRecursion P xs → AllByRecursion P ys → AllByRecursion P (xs ++ ys)
all_joined P [] ys h k = k
all_joined P (x ∷ xs) ys h k = (h.0, all_joined P xs ys h.1 k)

-- ---- places

pub place_of_map : {A B : Type 0} (f : A → B) (test : B → Bool) (n : ℕ) (xs : List A) → place_from n (λ x. test (f x)) xs ≡ place_from n test (map f xs)
place_of_map f test n [] = refl
place_of_map f test n (x ∷ xs) = ap (λ (o : Option ℕ). if test (f x) then Some n else o) (place_of_map f test (suc n) xs)

-- what stands at the first place that passes a test
pub record Found {A : Type 0} (test : A → Bool) (xs : List A) (start n : ℕ) : Type 0 where
  pub at : ℕ
  pub what : A
  pub is_at : start + at ≡ n
  pub within : at < length xs
  pub there : (d : A) → get_or xs at d ≡ what
  pub passes : test what ≡ true
  pub found : find test xs ≡ Some what

abbrev some_number : ℕ → Option ℕ
some_number n = Some n

number_is : (a b : ℕ) → some_number a ≡ some_number b → a ≡ b
number_is a b e = cc

found_here : {A : Type 0} (test : A → Bool) (x : A) (xs : List A) (start n : ℕ) (b : Bool) → test x ≡ b → (if b then Some start else place_from (suc start) test xs) ≡ Some n → (place_from (suc start) test xs ≡ Some n → Found test xs (suc start) n) → Found test (x ∷ xs) start n
found_here test x xs start n true passed e later = record {
  at = 0;
  what = x;
  is_at = omega (arith, number_is start n e);
  within = omega arith;
  there = λ d. refl;
  passes = passed;
  found = rw passed refl;
}
found_here test x xs start n false passed e later =
    let f = later e in
    record {
      at = suc f.at;
      what = f.what;
      is_at = omega (arith, f.is_at);
      within = omega (arith, f.within);
      there = f.there;
      passes = f.passes;
      found = rw passed f.found;
    }

pub place_found : {A : Type 0} (test : A → Bool) (xs : List A) (start n : ℕ) → place_from start test xs ≡ Some n → Found test xs start n
place_found test [] start n e = absurd cc
place_found test (x ∷ xs) start n e = found_here test x xs start n (test x) refl e (place_found test xs (suc start) n)

-- in a list without doubles each stands first at its own place
pub own_place : {A : Type 0} (same : A → A → Bool) → Exact same → (xs : List A) → IsDistinct same xs → (start n : ℕ) (d : A) → n < length xs → place_from start (λ x. same x (get_or xs n d)) xs ≡ Some (start + n)
unfolding IsDistinct
own_place same exact [] apart start n d lt = absurd (omega arith)
own_place same exact (x ∷ xs) apart start zero d lt =
    let first : place_from start (λ y. same y x) (x ∷ xs) ≡ Some start = rw (exact.one x) refl in
    first ∙ ap some_number (omega arith)
own_place same exact (x ∷ xs) apart start (suc n) d lt =
    let other : same x (get_or xs n d) ≡ false = all_at (λ y. same x y ≡ false) xs n d (omega arith) apart.0 in
    let rest = own_place same exact xs apart.1 (suc start) n d (omega arith) in
    ap (λ (b : Bool). if b then Some start else place_from (suc start) (λ y. same y (get_or xs n d)) xs) other ∙ rest ∙ ap some_number (omega arith)

-- ---- no doubles

bytes_turned : (x y : List ℕ) (b c : Bool) → bytes_eq x y ≡ b → bytes_eq y x ≡ c → b ≡ c
bytes_turned x y true true p q = refl
bytes_turned x y false false p q = refl
bytes_turned x y true false p q = sym (ap (λ z. bytes_eq y z) (exact_bytes.two x y p) ∙ exact_bytes.one y) ∙ q
bytes_turned x y false true p q = sym p ∙ (ap (λ z. bytes_eq x z) (exact_bytes.two y x q) ∙ exact_bytes.one x)

-- the test on names doesn't mind the order
pub bytes_sym : (x y : List ℕ) → bytes_eq x y ≡ bytes_eq y x
bytes_sym x y = bytes_turned x y (bytes_eq x y) (bytes_eq y x) refl refl

none_at : {A : Type 0} (b : Bool) (x : A) (xs ys : List A) → (if b then x ∷ xs else ys) ≡ [] → (b ≡ false) × (ys ≡ [])
none_at true x xs ys h = absurd cc
none_at false x xs ys h = (refl, h)

neither : (b c : Bool) → (if b then true else c) ≡ false → (b ≡ false) × (c ≡ false)
neither true c h = absurd (true≢false h)
neither false c h = (refl, h)

some_split : {A : Type 0} (test : A → Bool) (xs : List A) (y : A) → some test (xs ++ y ∷ []) ≡ false → (some test xs ≡ false) × (test y ≡ false)
some_split test [] y h = (refl, (neither (test y) false h).0)
some_split test (x ∷ xs) y h =
    let a = neither (test x) (some test (xs ++ y ∷ [])) h in
    let b = some_split test xs y a.1 in
    (ap (λ (c : Bool). if c then true else some test xs) a.0 ∙ b.0, b.1)

-- names without doubles, after others, are new and differ
abbrev NewAndDistinct : List (List ℕ) → List (List ℕ) → Type 0
NewAndDistinct before xs = AllByRecursion (λ x. some (bytes_eq x) before ≡ false) xs × IsDistinct bytes_eq xs

new_and_distinct : (before xs : List (List ℕ)) → doubles bytes_eq before xs ≡ [] → NewAndDistinct before xs
unfolding IsDistinct
new_and_distinct before [] h = (tt, tt)
new_and_distinct before (x ∷ xs) h =
    let a = none_at (some (bytes_eq x) before) x (doubles bytes_eq before xs) (doubles bytes_eq (before ++ x ∷ []) xs) h in
    let later = new_and_distinct (before ++ x ∷ []) xs a.1 in
    let new = all_map (λ y. some (bytes_eq y) (before ++ x ∷ []) ≡ false) (λ y. some (bytes_eq y) before ≡ false) (λ y n. (some_split (bytes_eq y) before x n).0) xs later.0 in
    let other = all_map (λ y. some (bytes_eq y) (before ++ x ∷ []) ≡ false) (λ y. bytes_eq x y ≡ false) (λ y n. bytes_sym x y ∙ (some_split (bytes_eq y) before x n).1) xs later.0 in
    ((a.0, new), (other, later.1))

pub distinct_names : (names : List (List ℕ)) → doubles bytes_eq [] names ≡ [] → IsDistinct bytes_eq names
distinct_names names h = (new_and_distinct [] names h).1

-- two lists without doubles that have nothing in common make one
pub distinct_joined : {A : Type 0} (same : A → A → Bool) (xs ys : List A) → IsDistinct same xs → IsDistinct same ys → AllByRecursion (λ x. AllByRecursion (λ y. same x y ≡ false) ys) xs → IsDistinct same (xs ++ ys)
unfolding IsDistinct
distinct_joined same [] ys p q h = q
distinct_joined same (x ∷ xs) ys p q h = (all_joined (λ y. same x y ≡ false) xs ys p.0 h.0, distinct_joined same xs ys p.1 q h.1)

pub distinct_mapped : {A B : Type 0} (same : A → A → Bool) (other : B → B → Bool) (f : A → B) → ((x y : A) → same x y ≡ false → other (f x) (f y) ≡ false) → (xs : List A) → IsDistinct same xs → IsDistinct other (map f xs)
unfolding IsDistinct
distinct_mapped same other f keeps [] h = tt
distinct_mapped same other f keeps (x ∷ xs) h =
    (all_mapped (λ y. other (f x) y ≡ false) f xs (all_map (λ y. same x y ≡ false) (λ y. other (f x) (f y) ≡ false) (λ y e. keeps x y e) xs h.0), distinct_mapped same other f keeps xs h.1)

-- ---- items of a list behind a slice

pub item_all : {A : Type 0} (P : A → Type 0) (xs ys : List A) (i : ℕ) (x : A) → ys ≡ xs → i < length ys → x ≡ get_or ys i x → All P xs → P x
item_all {A} P xs ys i x same lt is h = subst P (sym is) (All-get_or P ys i x lt (subst (λ (zs : List A). All P zs) (sym same) h))
