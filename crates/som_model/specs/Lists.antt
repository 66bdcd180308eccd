-- Words on lists and options that the definitions share.
use Rattle.std.specs.Prelude.{◌≡◌, ℕ, suc, ◌⊎◌, Bool, true, false, if◌then◌else◌, List, [], ◌∷◌, ◌++◌, Option, Some, None}
use Rattle.std.specs.Str.{bytes_eq}

-- a is one of the list
abbrev pub Mem : {A : Type 0} → A → List A → Type 0
Mem a [] = ⊥
Mem a (x ∷ xs) = (a ≡ x) ⊎ Mem a xs

-- the list without those that pass the test
abbrev pub without : {A : Type 0} → (A → Bool) → List A → List A
without test [] = []
without test (x ∷ xs) = if test x then without test xs else x ∷ without test xs

-- the first occurrences
abbrev pub firsts : {A : Type 0} → (A → A → Bool) → List A → List A
firsts same [] = []
firsts same (x ∷ xs) = x ∷ without (same x) (firsts same xs)

-- lists joined to one
abbrev pub joined : {A : Type 0} → List (List A) → List A
joined [] = []
joined (xs ∷ xss) = xs ++ joined xss

-- the first, if there is one
abbrev pub first : {A : Type 0} → List A → Option A
first [] = None
first (x ∷ xs) = Some x

-- this one, or else the other
abbrev pub or_else : {A : Type 0} → Option A → Option A → Option A
or_else None o = o
or_else (Some x) o = Some x

-- the first that the function has something for
abbrev pub first_some : {A B : Type 0} → (A → Option B) → List A → Option B
first_some f [] = None
first_some f (x ∷ xs) = or_else (f x) (first_some f xs)

-- the first that passes the test
abbrev pub find : {A : Type 0} → (A → Bool) → List A → Option A
find test [] = None
find test (x ∷ xs) = if test x then Some x else find test xs

-- whether some member passes the test
abbrev pub some : {A : Type 0} → (A → Bool) → List A → Bool
some test [] = false
some test (x ∷ xs) = if test x then true else some test xs

-- whether each member passes the test
abbrev pub every : {A : Type 0} → (A → Bool) → List A → Bool
every test [] = true
every test (x ∷ xs) = if test x then every test xs else false

-- the place of the first that passes the test, counted from n
abbrev pub place_from : {A : Type 0} → ℕ → (A → Bool) → List A → Option ℕ
place_from n test [] = None
place_from n test (x ∷ xs) = if test x then Some n else place_from (suc n) test xs

-- the list of what an option holds
abbrev pub option_list : {A : Type 0} → Option A → List A
option_list None = []
option_list (Some a) = a ∷ []

-- whether a name is one of the names
abbrev pub among : List ℕ → List (List ℕ) → Bool
among name names = some (bytes_eq name) names

-- those that stand a second time, where these stood before
abbrev pub doubles : {A : Type 0} → (A → A → Bool) → List A → List A → List A
doubles same before [] = []
doubles same before (x ∷ xs) = if some (same x) before then x ∷ doubles same before xs else doubles same (before ++ x ∷ []) xs
