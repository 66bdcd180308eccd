-- Where the variables of an object stand, and rows of these places, over any names of classes.
use Rattle.std.specs.Prelude.{◌≡◌, ◌≢◌, ◌⊎◌, ℕ, ◌+◌, ◌-◌, ◌^◌, ◌<◌, nat_lt, Bool, if◌then◌else◌, List, [], ◌∷◌, map, flat_map, length, Option, Some, None, slice_get}
use Rattle.som_model.specs.Hierarchy.{Hierarchy}
use Rattle.som_model.specs.Ancestors.{Descends, anc}
use Rattle.som_tables.specs.Rows.{Added, HasRow, HaveRowsBelow, ParentsComeFirst, inherited, replaced_at}
use Rattle.som_class_layout_laws.specs.Laying.{Scheme, IsToken}

-- how many variables the classes before a have
abbrev pub before : {K V : Type 0} → (K → K → Bool) → (K → List V) → K → List K → ℕ
before same own a [] = 0
before same own a (x ∷ xs) = if same a x then 0 else length (own x) + before same own a xs

-- the place of variable i of class a in an object of class x: ancestors follow one another, x first
abbrev pub data_place : {K V : Type 0} → Hierarchy K → (K → List V) → K → K → ℕ → ℕ
data_place h own x a i = before h.same own a (anc h x) + i

-- the variables of an object of class x, by their places
abbrev pub variables : {K V : Type 0} → Hierarchy K → (K → List V) → K → List V
variables h own x = flat_map own (anc h x)

-- which variable of which class stands at a place
abbrev pub variable_at : {K V : Type 0} → (K → List V) → List K → ℕ → Option (K × ℕ)
variable_at own [] n = None
variable_at own (x ∷ xs) n = if nat_lt n (length (own x)) then Some (x, n) else variable_at own xs (n - length (own x))

-- a place as the cells of a row tell it that are so much less, in 32 bits
abbrev pub less : ℕ → ℕ → ℕ
less shift place = if nat_lt place shift then place + 2 ^ 32 - shift else place - shift

-- each row has for each variable of an ancestor its place, less the row's shift
pub record IsPlaced {K V : Type 0} (s : Scheme K) (own : K → List V) (shift : ℕ → ℕ) (rows : List (Option (Added ℕ))) : Type 0 where
  pub order : ParentsComeFirst rows
  pub numbered : (n : ℕ) → HasRow rows n → n < s.count
  pub cells : (n : ℕ) (t : ℕ × ℕ) → HasRow rows n → IsToken s t → Descends s.classes (s.key n) (s.key t.0)
      → inherited rows n t ≡ Some (less (shift n) (data_place s.classes own (s.key n) (s.key t.0) t.1))

-- the first of these parents has the variable too, and what its row has for it serves class n
pub record HasFirst {K V : Type 0} (s : Scheme K) (own : K → List V) (shift : ℕ → ℕ) (n : ℕ) (parents : List ℕ) (t : ℕ × ℕ) : Type 0 where
  pub first : ℕ
  pub others : List ℕ
  pub parents_are : parents ≡ first ∷ others
  pub below : Descends s.classes (s.key first) (s.key t.0)
  pub same : less (shift first) (data_place s.classes own (s.key first) (s.key t.0) t.1) ≡ less (shift n) (data_place s.classes own (s.key n) (s.key t.0) t.1)

-- what the row of class n is made of: its own variables come first, and the place of each other one is what the first parent has, or replaces what is inherited
pub record IsDataRow {K V : Type 0} (s : Scheme K) (own : K → List V) (shift : ℕ → ℕ) (rows : List (Option (Added ℕ))) (n : ℕ) (a : Added ℕ) : Type 0 where
  pub numbered : n < s.count
  pub parents : map s.key a.parents ≡ s.classes.parents (s.key n)
  pub below : HaveRowsBelow n rows a.parents
  pub first : (i : ℕ) → i < s.introduced n → slice_get a.introduced i ≡ Some (less (shift n) i)
  pub not_own : (i : ℕ) → i < s.introduced n → replaced_at a.replaced (n, i) ≡ None
  pub others : (t : ℕ × ℕ) → IsToken s t → t.0 ≢ n → Descends s.classes (s.key n) (s.key t.0)
      → (replaced_at a.replaced t ≡ Some (less (shift n) (data_place s.classes own (s.key n) (s.key t.0) t.1))) ⊎ ((replaced_at a.replaced t ≡ None) × HasFirst s own shift n a.parents t)
