-- The variables of an object, in its cells.
use Rattle.std.specs.Prelude.{◌≡◌, ℕ, List, Option, Some, slice_get}
use Rattle.som_model.specs.declared.key.ClassKey.{ClassKey}
use Rattle.som_semantics.specs.State.{Variables}
use Rattle.som_objects.specs.declared.cell.Cell.{Cell}
use Rattle.som_values.specs.Shown.{Showing, shown}

-- the place of each variable of each class among an object's cells, where the object has the variable
abbrev pub Places : Type 0
Places = ClassKey → ℕ → Option ℕ

-- no two variables share a place
abbrev pub AreDisjoint : Places → Type 0
AreDisjoint place = (k c : ClassKey) (n m p : ℕ) → place k n ≡ Some p → place c m ≡ Some p → (c ≡ k) × (m ≡ n)

-- the cell at each variable's place stands for the variable's value
abbrev pub AreHeld : Showing → Places → List Cell → Variables → Type 0
AreHeld s place cs vars = (k : ClassKey) (n p : ℕ) → place k n ≡ Some p → (c : Cell) × (slice_get cs p ≡ Some c) × (vars k n ≡ shown s c)
