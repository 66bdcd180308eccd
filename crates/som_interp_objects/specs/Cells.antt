-- What cells hold of variables, and the cells of zero values.
use Rattle.std.specs.Prelude.{◌≡◌, ℕ, List, length, Option, Some, None, slice_get}
use Rattle.som_semantics.specs.State.{Value, zeros}
use Rattle.som_objects.specs.declared.cell.Cell.{Cell}
use Rattle.som_objects.specs.Objects.{Objects}
use Rattle.som_values.specs.Shown.{Showing, key_of, shown}
use Rattle.som_values.specs.Variables.{Places}
use Rattle.som_interp_state.specs.Own.{IsOwn}
use Rattle.som_interp_state.specs.Settings.{Linked}
use Rattle.som_interp_state.specs.Stored.{HoldVariables}
use Rattle.som_interp_state.specs.Asked.{target_after}

-- a cell that stands for a value without a reference, whatever the objects are
pub record IsPlain (c : Cell) (v : Value) : Type 0 where
  pub means : (s : Showing) → shown s c ≡ v
  pub own : (s : Showing) (os : Objects) → IsOwn s os c

-- the cell at a variable's place, or the zero value where it has no place
abbrev pub IsAt : Option ℕ → List Cell → Value → Cell → Type 0
IsAt (Some p) cells zero c = slice_get cells p ≡ Some c
IsAt None cells zero c = IsPlain c zero

-- the cells of variables at these places, each at its zero value
abbrev pub AreZero : Linked → Places → List Cell → Type 0
AreZero l places cells = (xs : List ℕ) (os : Objects) → HoldVariables l xs os places cells (zeros l.world)

-- the cells of a new object of a class but for a proxy's target, which comes after them
pub record AreNew (l : Linked) (class : ℕ) (cells : List Cell) : Type 0 where
  pub zero : AreZero l (l.variables class) cells
  pub target : l.target class ≡ target_after (key_of l.keys class) (length cells)
