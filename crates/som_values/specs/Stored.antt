-- The objects of the meaning that a store holds, and what classes answer of them.
use Rattle.std.specs.Prelude.{◌≡◌, ℕ, Bool, true, false, List, length, Option, Some, None, Result, Ok, Err, slice_get}
use Rattle.som_model.specs.declared.key.ClassKey.{ClassKey}
use Rattle.som_model.specs.declared.key.ValueType.{ValueType}
use Rattle.som_model.specs.declared.key.ValueType.TheVariants as types
use Rattle.som_model.specs.declared.program.Fault.{Fault}
use Rattle.som_model.specs.declared.program.Fault.TheVariants as faults
use Rattle.som_semantics.specs.World.{World}
use Rattle.som_semantics.specs.State.{Instance, Heap, Ref, is_live, class_of}
use Rattle.som_objects.specs.declared.cell.Cell.{Cell}
use Rattle.som_objects.specs.declared.cell.Cell.TheVariants as cells
use Rattle.som_objects.specs.Objects.{Live, Objects, live_at, IsKnown}
use Rattle.som_values.specs.declared.reference.Reference.{Reference}
use Rattle.som_values.specs.declared.reference.Reference.TheVariants as references
use Rattle.som_values.specs.Shown.{Showing, key_of, place_of, IsMade, IsNumbered, IsKey}

-- an object that is live in the store is live in the meaning and has its class, which has a number, and one that was freed is freed there
abbrev pub IsOne : List ClassKey → Option Live → Option Instance → Type 0
IsOne keys (Some o) (Some t) = (t.live ≡ true) × (t.class ≡ key_of keys o.class) × IsNumbered keys o.class
IsOne keys None (Some t) = t.live ≡ false
IsOne keys _ None = ⊥

-- the heap has as many objects as the task made, and each of these stands in it at the place of its serial, with the same class, and live where it is live in the store
pub record Holds (s : Showing) (os : Objects) (h : Heap) : Type 0 where
  pub many : length h.objects ≡ length s.serials
  pub by : (n : ℕ) → IsMade s.serials n → IsOne s.keys (live_at os n) (slice_get h.objects (place_of s.serials n))

-- the store knows the object that a cell refers to
abbrev pub IsKept : Objects → Cell → Type 0
IsKept os (cells.Object r) = IsKnown os r
IsKept os _ = Unit {0}

abbrev pub IsKeptRef : Objects → Reference → Type 0
IsKeptRef os (references.Object r) = IsKnown os r
IsKeptRef os _ = Unit {0}

-- what classes answer of an object: the number of its class, where it is live, and else the fault Freed
abbrev pub IsClassOf : List ClassKey → World → Heap → Ref → Result ℕ Fault → Type 0
IsClassOf keys w h r (Ok n) = (is_live h r ≡ true) × (class_of w h r ≡ key_of keys n)
IsClassOf keys w h r (Err f) = (is_live h r ≡ false) × (f ≡ faults.Freed)

-- the classes can be asked for the class of a reference: an object's class has a number, where the object is live, and the class of a class object has one and is made
abbrev pub IsClassedRef : List ClassKey → (ClassKey → Bool) → Objects → Reference → Type 0
IsClassedRef keys made os (references.Object r) = (o : Live) → live_at os r.serial ≡ Some o → IsNumbered keys o.class
IsClassedRef keys made os (references.Class n) = IsNumbered keys n × (made (key_of keys n) ≡ true)
IsClassedRef keys made os references.Manager = Unit {0}

abbrev pub IsClassed : List ClassKey → (ClassKey → Bool) → Objects → Cell → Type 0
IsClassed keys made os (cells.Object r) = (o : Live) → live_at os r.serial ≡ Some o → IsNumbered keys o.class
IsClassed keys made os (cells.Class n) = IsNumbered keys n × (made (key_of keys n) ≡ true)
IsClassed keys made os _ = Unit {0}

-- a class has the key, where the type is one of objects
abbrev pub IsKnownType : List ClassKey → ValueType → Type 0
IsKnownType keys (types.Class k) = IsKey keys k
IsKnownType keys _ = Unit {0}
