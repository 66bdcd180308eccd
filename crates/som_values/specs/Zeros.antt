-- The cells of a new object.
use Rattle.std.specs.Prelude.{◌≡◌, List, map}
use Rattle.std.specs.List.{All}
use Rattle.som_model.specs.declared.class.Variable.{Variable}
use Rattle.som_model.specs.declared.key.ValueType.{ValueType}
use Rattle.som_semantics.specs.State.{zero_of}
use Rattle.som_objects.specs.declared.cell.Cell.{Cell}
use Rattle.som_objects.specs.Objects.{Objects}
use Rattle.som_values.specs.Shown.{IsSeen, Showing, all_shown}
use Rattle.som_values.specs.Stored.{IsKept}

-- the types of these variables
abbrev pub kinds_of : List Variable → List ValueType
kinds_of vs = map (λ (v : Variable). v.kind) vs

-- the cells of variables of these types, each at its zero value, whatever the objects are
pub record AreZeros (types : List ValueType) (cells : List Cell) : Type 0 where
  pub means : (s : Showing) → all_shown s cells ≡ map zero_of types
  pub seen : (s : Showing) → All (IsSeen s) cells
  pub kept : (os : Objects) → All (IsKept os) cells
