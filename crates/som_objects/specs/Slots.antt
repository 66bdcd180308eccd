-- The objects that the slots of a slab stand for.
use Rattle.std.specs.Prelude.{◌≡◌, ◌≢◌, ℕ, zero, suc, ◌<◌, ◌≤◌, ◌==◌, Bool, if◌then◌else◌, List, [], ◌∷◌, ◌++◌, length, Option, Some, None, slice_index_or, slice_set}
use Rattle.som_objects.specs.declared.slot.Slot.{Slot}
use Rattle.som_objects.specs.declared.cell.Cell.{Cell}
use Rattle.som_objects.specs.declared.object_ref.ObjRef.{ObjRef}
use Rattle.som_objects.specs.Objects.{Live, Objects}

-- what is kept under a key
abbrev pub slot_at : List (Option Slot) → ℕ → Option Slot
slot_at slots k = slice_index_or slots k None

-- the object in a slot
abbrev pub as_live : ℕ → Slot → Live
as_live k o = record { key = k; class = o.class; cells = o.cells.items }

-- the object of this slot where it is asked for, and else that of another
abbrev pub live_by : Bool → ℕ → Slot → Option Live → Option Live
live_by b k o rest = if b then Some (as_live k o) else rest

-- the object with a serial among these slots, the first of which has the key k
abbrev pub live_from : ℕ → List (Option Slot) → ℕ → Option Live
live_from k [] s = None
live_from k (None ∷ os) s = live_from (suc k) os s
live_from k (Some o ∷ os) s = live_by (o.serial == s) k o (live_from (suc k) os s)

-- the object with a serial
unfoldable pub object_of : List (Option Slot) → ℕ → Option Live
object_of slots s = live_from 0 slots s

-- the objects with the serials from 1 to n
abbrev pub objects : List (Option Slot) → ℕ → Objects
objects slots zero = []
objects slots (suc n) = objects slots n ++ object_of slots (suc n) ∷ []

-- serials count from 1 to the last that was given, and no two slots have the same
pub record IsStore (slots : List (Option Slot)) (made : ℕ) : Type 0 where
  pub serials : (k : ℕ) (o : Slot) → slot_at slots k ≡ Some o → (0 < o.serial) × (o.serial ≤ made)
  pub apart : (j k : ℕ) (o q : Slot) → slot_at slots j ≡ Some o → slot_at slots k ≡ Some q → o.serial ≡ q.serial → j ≡ k

-- what is kept under a key, where it has the serial
abbrev pub live_slot : Option Slot → ℕ → Option Slot
live_slot None s = None
live_slot (Some o) s = if o.serial == s then Some o else None

-- the object's slot has a cell at the place
abbrev pub HasPlace : List (Option Slot) → ObjRef → ℕ → Type 0
HasPlace slots r place = (o : Slot) → live_slot (slot_at slots r.key) r.serial ≡ Some o → place < length o.cells.items

-- the object's slot has a new cell at the place, and each other slot what it had
pub record Puts (old new : List (Option Slot)) (r : ObjRef) (place : ℕ) (cell : Cell) : Type 0 where
  pub was : Slot
  pub is : Slot
  pub found : live_slot (slot_at old r.key) r.serial ≡ Some was
  pub at : slot_at new r.key ≡ Some is
  pub serial : is.serial ≡ was.serial
  pub class : is.class ≡ was.class
  pub cells : is.cells.items ≡ slice_set was.cells.items place cell
  pub others : (k : ℕ) → k ≢ r.key → slot_at new k ≡ slot_at old k
