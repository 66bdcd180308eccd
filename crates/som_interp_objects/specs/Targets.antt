-- The target of a proxy, in its cells.
use Rattle.std.specs.Prelude.{◌≡◌, ℕ, ◌<◌, if◌then◌else◌, List, length, Option, Some, None, Result, Ok, Err, slice_get}
use Rattle.som_model.specs.declared.program.Fault.TheVariants as faults
use Rattle.som_semantics.specs.State.{Heap, Ref, Tried, Value, is_live, target_of}
use Rattle.som_objects.specs.declared.cell.Cell.{Cell}
use Rattle.som_objects.specs.declared.cell.Cell.TheVariants as cells
use Rattle.som_objects.specs.declared.object_ref.ObjRef.{ObjRef}
use Rattle.som_objects.specs.Objects.{Live, Objects, live_at, IsGone}
use Rattle.som_values.specs.declared.stopped.Stopped.{Stopped}
use Rattle.som_values.specs.declared.stopped.Stopped.TheVariants as stops
use Rattle.som_interp_state.specs.Settings.{Linked}

-- the target of what is live; of what is no proxy it is nil
abbrev pub targeted : Ref → Heap → Tried Value
targeted r h = if is_live h r then Ok (target_of h r) else Err faults.Freed

-- where the object is live, it has a cell for its target, if it is a proxy
abbrev pub HasTarget : Linked → Objects → ObjRef → Type 0
HasTarget l os r = (o : Live) (p : ℕ) → live_at os r.serial ≡ Some o → l.target o.class ≡ Some p → p < length o.cells

-- the cell at the target's place, or nil where there is none
abbrev pub IsTargetAt : Option ℕ → List Cell → Cell → Type 0
IsTargetAt (Some p) held c = slice_get held p ≡ Some c
IsTargetAt None held c = c ≡ cells.Nil

-- what the object has for its target, or Freed where it is gone
abbrev pub IsTarget : Linked → Objects → ObjRef → Result Cell Stopped → Type 0
IsTarget l os r (Ok c) = (o : Live) × (live_at os r.serial ≡ Some o) × IsTargetAt (l.target o.class) o.cells c
IsTarget l os r (Err (stops.Fault f)) = IsGone os r × (f ≡ faults.Freed)
IsTarget l os r (Err stops.NoMemory) = Unit {0}
