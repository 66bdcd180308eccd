-- The variables of an object, in its cells.
use Rattle.std.specs.Prelude.{◌≡◌, ℕ, ◌<◌, Bool, true, length, Some, Result, Ok, Err}
use Rattle.som_model.specs.declared.key.ClassKey.{ClassKey}
use Rattle.som_model.specs.declared.program.Fault.TheVariants as faults
use Rattle.som_semantics.specs.State.{zeros}
use Rattle.som_objects.specs.declared.cell.Cell.{Cell}
use Rattle.som_objects.specs.declared.object_ref.ObjRef.{ObjRef}
use Rattle.som_objects.specs.Objects.{Live, Objects, live_at, HasCell, IsGone, Writes}
use Rattle.som_values.specs.declared.stopped.Stopped.{Stopped}
use Rattle.som_values.specs.declared.stopped.Stopped.TheVariants as stops
use Rattle.som_values.specs.Shown.{IsNumbered, key_of}
use Rattle.som_interp_state.specs.Settings.{Linked}
use Rattle.som_interp_objects.specs.Cells.{IsAt}

-- where the object is live, its class has a number and is made, and it has a cell for each variable that has a place
pub record IsWhole (l : Linked) (made : ClassKey → Bool) (os : Objects) (r : ObjRef) : Type 0 where
  pub numbered : (o : Live) → live_at os r.serial ≡ Some o → IsNumbered l.keys o.class
  pub made_of : (o : Live) → live_at os r.serial ≡ Some o → made (key_of l.keys o.class) ≡ true
  pub cells : (o : Live) (c : ClassKey) (n p : ℕ) → live_at os r.serial ≡ Some o → l.variables o.class c n ≡ Some p → p < length o.cells

-- where the object is live, its class is this one or descends from it
abbrev pub IsOfClass : Linked → Objects → ObjRef → ClassKey → Type 0
IsOfClass l os r k = (o : Live) → live_at os r.serial ≡ Some o → l.world.is_a (key_of l.keys o.class) k ≡ true

-- the cell at a place of an object, or Freed where the object is gone
abbrev pub IsCell : Objects → ObjRef → ℕ → Result Cell Stopped → Type 0
IsCell os r place (Ok c) = HasCell os r place c
IsCell os r place (Err (stops.Fault f)) = IsGone os r × (f ≡ faults.Freed)
IsCell os r place (Err stops.NoMemory) = Unit {0}

-- what the object has for a variable, or Freed where it is gone
abbrev pub IsOfObject : Linked → Objects → ObjRef → ClassKey → ℕ → Result Cell Stopped → Type 0
IsOfObject l os r c n (Ok cell) = (o : Live) × (live_at os r.serial ≡ Some o) × IsAt (l.variables o.class c n) o.cells (zeros l.world c n) cell
IsOfObject l os r c n (Err (stops.Fault f)) = IsGone os r × (f ≡ faults.Freed)
IsOfObject l os r c n (Err stops.NoMemory) = Unit {0}

-- the cell at the variable's place has changed, or Freed where the object is gone
abbrev pub IsWritten : Linked → Objects → Objects → ObjRef → ClassKey → ℕ → Cell → Result (Unit {0}) Stopped → Type 0
IsWritten l old new r c n cell (Ok _) = (p : ℕ) × (w : Writes old new r p cell) × (l.variables w.0.class c n ≡ Some p)
IsWritten l old new r c n cell (Err (stops.Fault f)) = IsGone old r × (f ≡ faults.Freed)
IsWritten l old new r c n cell (Err stops.NoMemory) = ⊥
