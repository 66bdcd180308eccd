-- A task that reads and writes the variables of self.
use Rattle.std.specs.Prelude.{◌≡◌, ℕ, Bool, true, if◌then◌else◌, List, [], Option, Some, Result, Ok, Err}
use Rattle.som_model.specs.declared.key.ClassKey.{ClassKey}
use Rattle.som_model.specs.declared.program.Fault.TheVariants as faults
use Rattle.som_semantics.specs.State.{Value, To, Heap, Tried, is_live, class_of, write}
use Rattle.som_semantics.specs.World.{World}
use Rattle.som_objects.specs.declared.cell.Cell.{Cell}
use Rattle.som_objects.specs.Objects.{Objects}
use Rattle.som_values.specs.declared.reference.Reference.{Reference}
use Rattle.som_values.specs.declared.reference.Reference.TheVariants as references
use Rattle.som_values.specs.declared.stopped.Stopped.{Stopped}
use Rattle.som_values.specs.declared.stopped.Stopped.TheVariants as stops
use Rattle.som_values.specs.Shown.{IsMade}
use Rattle.som_interp_state.specs.Settings.{Linked}
use Rattle.som_interp_state.specs.Standing.{me_shown}
use Rattle.som_interp_state.specs.Holding.{Holding, IsUsableMe}

-- a task with these serials has the objects of a heap, and may use this self
pub record Acts (l : Linked) (made : ClassKey → Bool) (os : Objects) (statics : List (Option (List Cell))) (me : Option Reference) (xs : List ℕ) (h : Heap) : Type 0 where
  pub holding : Holding l made xs os statics h
  pub self : IsUsableMe l made xs os me

-- there is such a task
abbrev pub IsActing : Linked → (ClassKey → Bool) → Objects → List (Option (List Cell)) → Option Reference → Type 0
IsActing l made os statics me = (xs : List ℕ) × (h : Heap) × Acts l made os statics me xs h

-- the value of self, which is nil in main
abbrev pub me_value : Linked → List ℕ → Option Reference → Value
me_value l xs me = me_shown (record { linked = l; serials = xs; codes = [] }) me

-- what is live is of this class, or of one that descends from it
abbrev pub IsBelow : World → Heap → Value → ClassKey → Type 0
IsBelow w h (To r) k = is_live h r ≡ true → w.is_a (class_of w h r) k ≡ true
IsBelow w h _ k = Unit {0}

-- there is such a task, and its self is of a class that descends from this one
abbrev pub MayAssign : Linked → (ClassKey → Bool) → Objects → List (Option (List Cell)) → Option Reference → ClassKey → Type 0
MayAssign l made os statics me k = (xs : List ℕ) × (h : Heap) × Acts l made os statics me xs h × IsBelow l.world h (me_value l xs me) k

-- the heap where self's variable was assigned: self isn't nil, and is live
abbrev pub assigned : ClassKey → ℕ → Value → Value → Heap → Tried Heap
assigned k n (To r) v h = if is_live h r then Ok (write r k n v h) else Err faults.Freed
assigned k n _ v h = Err faults.Nil

-- the task has the heap of the meaning, or the meaning's fault is answered, or want of memory
abbrev pub Becomes : Linked → (ClassKey → Bool) → List ℕ → Objects → List (Option (List Cell)) → Result (Unit {0}) Stopped → Tried Heap → Type 0
Becomes l made xs os statics (Ok _) t = (h : Heap) × (t ≡ Ok h) × Holding l made xs os statics h
Becomes l made xs os statics (Err (stops.Fault f)) t = t ≡ Err f
Becomes l made xs os statics (Err stops.NoMemory) t = Unit {0}

-- self is one of the objects with these serials
abbrev pub IsAmong : List ℕ → Option Reference → Type 0
IsAmong ys (Some (references.Object r)) = IsMade ys r.serial
IsAmong ys _ = ⊥
