-- The rows of a table: which classes have one, which tokens it has, and its cell for each.
use Rattle.std.specs.Prelude.{◌≡◌, ◌≢◌, ◌↔◌, ◌⊎◌, ℕ, zero, suc, ◌<◌, ◌==◌, ◌&&◌, Bool, if◌then◌else◌, List, [], ◌∷◌, length, Option, Some, None, IsSome, IsNone, option_and_then, slice_get, ⊤}
use Rattle.std.specs.Option.{option_or, option_map_or, option_flatten}
use Rattle.std.specs.List.{AllByRecursion}

-- what the row of a class is made of
pub record Added (C : Type 0) : Type 0 where
  pub parents : List ℕ
  pub introduced : List C
  pub replaced : List ((ℕ × ℕ) × C)

-- the row that is made of these
abbrev pub class_with : {C : Type 0} → List ℕ → List C → List ((ℕ × ℕ) × C) → Added C
class_with parents introduced replaced = record { parents = parents; introduced = introduced; replaced = replaced }

-- what the row of class c is made of, and none where the class has no row
abbrev pub row_at : {C : Type 0} → List (Option (Added C)) → ℕ → Option (Added C)
row_at cs c = option_flatten (slice_get cs c)

-- the class has a row
abbrev pub HasRow : {C : Type 0} → List (Option (Added C)) → ℕ → Type 0
HasRow cs c = IsSome (row_at cs c)

-- the class is numbered and has no row
abbrev pub IsDeclared : {C : Type 0} → List (Option (Added C)) → ℕ → Type 0
IsDeclared cs c = slice_get cs c ≡ Some None

-- the first answer along a list
abbrev pub first_some : {A B : Type 0} → (A → Option B) → List A → Option B
first_some f [] = None
first_some f (x ∷ xs) = option_or (f x) (first_some f xs)

-- whether two tokens name one place of one class
abbrev pub same_token : ℕ × ℕ → ℕ × ℕ → Bool
same_token s t = (s.0 == t.0) && (s.1 == t.1)

-- the cell that replaces the token's, where there is one
abbrev pub replaced_at : {C : Type 0} → List ((ℕ × ℕ) × C) → ℕ × ℕ → Option C
replaced_at [] t = None
replaced_at (r ∷ rs) t = if same_token r.0 t then Some r.1 else replaced_at rs t

-- the cell of the token where class c introduced it
abbrev pub own_at : {C : Type 0} → ℕ → List C → ℕ × ℕ → Option C
own_at c introduced t = if t.0 == c then slice_get introduced t.1 else None

-- the cell of t in the row of class c, where `above` gives the one in each parent's row: the replaced one, else its own, else that of the leftmost parent whose row has t
abbrev pub row_cell : {C : Type 0} → (ℕ → Option C) → ℕ → ℕ × ℕ → Added C → Option C
row_cell above c t a = option_or (replaced_at a.replaced t) (option_or (own_at c a.introduced t) (first_some above a.parents))

-- the cell of t in the row of class c, along n levels of parents
abbrev pub inherited_within : {C : Type 0} → List (Option (Added C)) → ℕ × ℕ → ℕ → ℕ → Option C
inherited_within cs t zero c = None
inherited_within cs t (suc n) c = option_and_then (row_cell (inherited_within cs t n) c t) (row_at cs c)

-- the cell of t in the row of class c, and none where the class has no row or its row does not have t
unfoldable pub inherited : {C : Type 0} → List (Option (Added C)) → ℕ → ℕ × ℕ → Option C
inherited cs c t = inherited_within cs t (suc c) c

-- the class has a row, and this has the token t
abbrev pub HasToken : {C : Type 0} → List (Option (Added C)) → ℕ → ℕ × ℕ → Type 0
HasToken cs c t = IsSome (inherited cs c t)

-- the row of one of these classes has the token
abbrev pub SomeHasToken : {C : Type 0} → List (Option (Added C)) → List ℕ → ℕ × ℕ → Type 0
SomeHasToken cs parents t = IsSome (first_some (λ p. inherited cs p t) parents)

-- each of these classes has a row
abbrev pub HaveRows : {C : Type 0} → List (Option (Added C)) → List ℕ → Type 0
HaveRows cs classes = AllByRecursion (λ c. HasRow cs c) classes

-- each of these classes has a lower number than class n, and a row
abbrev pub HaveRowsBelow : {C : Type 0} → ℕ → List (Option (Added C)) → List ℕ → Type 0
HaveRowsBelow n cs classes = AllByRecursion (λ c. (c < n) × HasRow cs c) classes

-- the replaced tokens are in some parent's row
abbrev pub AreInherited : {C : Type 0} → List (Option (Added C)) → List ℕ → List ((ℕ × ℕ) × C) → Type 0
AreInherited cs parents replaced = AllByRecursion (λ r. SomeHasToken cs parents r.0) replaced

-- no token is replaced twice
abbrev pub AreDistinct : {C : Type 0} → List ((ℕ × ℕ) × C) → Type 0
AreDistinct [] = ⊤
AreDistinct (r ∷ rs) = IsNone (replaced_at rs r.0) × AreDistinct rs

-- how many cells the class introduced: none, where it has no row
abbrev pub introduced_count : {C : Type 0} → List (Option (Added C)) → ℕ → ℕ
introduced_count cs c = option_map_or (λ a. length a.introduced) (row_at cs c) 0

-- the parents of each row have lower numbers, and rows
abbrev pub ParentsComeFirst : {C : Type 0} → List (Option (Added C)) → Type 0
ParentsComeFirst {C} cs = (c : ℕ) (a : Added C) → row_at cs c ≡ Some a → HaveRowsBelow c cs a.parents

-- the row of each class is as before
abbrev pub KeepsRows : {C : Type 0} → List (Option (Added C)) → List (Option (Added C)) → Type 0
KeepsRows old new = (c : ℕ) → c < length old → (t : ℕ × ℕ) → inherited new c t ≡ inherited old c t

-- the row of each class but c is as before
abbrev pub KeepsOtherRows : {C : Type 0} → List (Option (Added C)) → List (Option (Added C)) → ℕ → Type 0
KeepsOtherRows old new c = (d : ℕ) → d ≢ c → (t : ℕ × ℕ) → inherited new d t ≡ inherited old d t

-- class c has the row that comes of the old rows and of what its own is made of
abbrev pub GivesRow : {C : Type 0} → List (Option (Added C)) → List (Option (Added C)) → ℕ → Added C → Type 0
GivesRow old new c a = (t : ℕ × ℕ) → inherited new c t ≡ row_cell (λ p. inherited old p t) c t a

-- that row has the tokens of its parents' rows and its own, and no other
abbrev pub GivesTokens : {C : Type 0} → List (Option (Added C)) → List (Option (Added C)) → ℕ → Added C → Type 0
GivesTokens old new c a = (t : ℕ × ℕ) → HasToken new c t ↔ (SomeHasToken old a.parents t ⊎ IsSome (own_at c a.introduced t))
