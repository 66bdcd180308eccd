-- Rows of places, and the variables of the classes that have rows.
use Rattle.std.specs.Prelude.{◌≡◌, ℕ, zero, suc, ◌+◌, ◌<◌, ◌^◌, List, [], ◌∷◌, ◌++◌, length, slice_index_or, Option}
use Rattle.som_model.specs.Lists.{Mem}
use Rattle.som_model.specs.declared.key.ClassKey.{ClassKey}
use Rattle.som_model.specs.Classes.{ancestors, hierarchy}
use Rattle.som_meta.specs.Numbering.{IsNumbered, Numbering, key_at}
use Rattle.som_class_layout_laws.specs.Places.{IsPlaced, less}
use Rattle.som_tables.specs.Rows.{Added, HasRow}
use Rattle.som_class_variables.specs.declared.start.RowStart.{RowStart}
use Rattle.som_class_variables.specs.Variables.{base_scheme, object_variables, own_variables}

-- what each row is made of, how many variables the objects of each class have that has one, and by how much the cells of its row are less than places
pub record DataRows : Type 0 where
  pub rows : List (Option (Added ℕ))
  pub counts : List ℕ
  pub shifts : List ℕ

-- these rows, counts and shifts in one
abbrev pub rows_with : List (Option (Added ℕ)) → List ℕ → List ℕ → DataRows
rows_with rows counts shifts = record { rows = rows; counts = counts; shifts = shifts }

-- the shift of a class's row
abbrev pub shift_in : List ℕ → ℕ → ℕ
shift_in shifts n = slice_index_or shifts n 0

-- so many variables are noted of each class that has a row
abbrev pub AreCounted : Numbering → List (Option (Added ℕ)) → List ℕ → Type 0
AreCounted k rows counts = (n : ℕ) → HasRow rows n → slice_index_or counts n 0 ≡ length (object_variables k.classes (key_at k n))

-- the rows of these classes: each has a number, each cell of a row tells a base, the place of the first variable of its class, and the variables of an
-- object are as many as is noted, which four bytes number
pub record ArePlaces (k : Numbering) (v : DataRows) : Type 0 where
  pub each : length v.rows ≡ length k.keys
  pub long : length v.counts ≡ length k.keys
  pub shifted : length v.shifts ≡ length k.keys
  pub placed : IsPlaced (base_scheme k) (own_variables k.classes) (shift_in v.shifts) v.rows
  pub few : (n : ℕ) → HasRow v.rows n → length (object_variables k.classes (key_at k n)) < 2 ^ 32
  pub counts : AreCounted k v.rows v.counts

-- each parent of a class has a row
abbrev pub HaveParentRows : Numbering → List (Option (Added ℕ)) → ℕ → Type 0
HaveParentRows k rows n = (p : ℕ) → IsNumbered k p → Mem (key_at k p) ((hierarchy k.classes).parents (key_at k n)) → HasRow rows p

-- the base of a class with so many variables, if it has any
abbrev pub base_of : ℕ → ℕ → ℕ → List ((ℕ × ℕ) × ℕ)
base_of n place zero = []
base_of n place (suc count) = ((n, 0), place) ∷ []

-- the bases of several classes, the variables of each of which stand after those of the classes before it, less a shift
abbrev pub bases_from : (ℕ → ℕ) → ℕ → ℕ → List ℕ → List ((ℕ × ℕ) × ℕ)
bases_from count shift place [] = []
bases_from count shift place (n ∷ ns) = base_of n (less shift place) (count n) ++ bases_from count shift (place + count n) ns

-- where a row goes on by the keys of its class's parents: after the class's own variables where there are none, and else after those of an object of the first
-- parent too, in whose row the places are as much less as the class has variables of its own
abbrev pub GoesAfter : Numbering → List ℕ → List ℕ → List ClassKey → ℕ → RowStart → Type 0
GoesAfter k counts shifts [] own s = (s.served ≡ 0) × (s.place ≡ own) × (s.shift ≡ own)
GoesAfter k counts shifts (parent ∷ others) own s = (p : ℕ) × IsNumbered k p × (key_at k p ≡ parent) × (s.served ≡ length (ancestors k.classes parent))
    × (s.place ≡ own + slice_index_or counts p 0) × (s.shift ≡ own + shift_in shifts p)

-- where the row of a class with so many variables of its own goes on
abbrev pub GoesOn : Numbering → List ℕ → List ℕ → ℕ → ℕ → RowStart → Type 0
GoesOn k counts shifts n own s = GoesAfter k counts shifts ((hierarchy k.classes).parents (key_at k n)) own s
