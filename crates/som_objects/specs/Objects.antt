-- Objects by serial, and references to them.
use Rattle.std.specs.Prelude.{◌≡◌, ℕ, zero, suc, ◌+◌, ◌-◌, ◌<◌, ◌≤◌, List, ◌∷◌, [], ◌++◌, length, Option, Some, None, slice_get, slice_set}
use Rattle.som_objects.specs.declared.cell.Cell.{Cell}
use Rattle.som_objects.specs.declared.object_ref.ObjRef.{ObjRef}

-- a live object: the key under which it is kept, the number of its class, and its cells
pub record Live : Type 0 where
  pub key : ℕ
  pub class : ℕ
  pub cells : List Cell

-- all objects ever made, in the order of their serials; one that was freed is none
abbrev pub Objects : Type 0
Objects = List (Option Live)

-- what stands at a place of the list, if it is as long
abbrev pub there : Option (Option Live) → Option Live
there None = None
there (Some o) = o

-- the object of a serial, where it is live; serials count from 1
abbrev pub live_at : Objects → ℕ → Option Live
live_at os zero = None
live_at os (suc n) = there (slice_get os n)

-- the serial is none that is still to come, and where its object is live, the key is that object's
pub record IsKnown (os : Objects) (r : ObjRef) : Type 0 where
  pub made : r.serial ≤ length os
  pub key : (o : Live) → live_at os r.serial ≡ Some o → o.key ≡ r.key

-- each reference that was known is known still
abbrev pub KeepsKnown : Objects → Objects → Type 0
KeepsKnown old new = (r : ObjRef) → IsKnown old r → IsKnown new r

-- no live object has the serial
abbrev pub IsGone : Objects → ObjRef → Type 0
IsGone os r = live_at os r.serial ≡ None

-- the object is live, and of this class
abbrev pub HasClass : Objects → ObjRef → ℕ → Type 0
HasClass os r class = (o : Live) × (live_at os r.serial ≡ Some o) × (o.class ≡ class)

-- the object is live, and has this cell at the place
abbrev pub HasCell : Objects → ObjRef → ℕ → Cell → Type 0
HasCell os r place cell = (o : Live) × (live_at os r.serial ≡ Some o) × (slice_get o.cells place ≡ Some cell)

-- the object is live, and has this class and these cells
abbrev pub IsObject : Objects → ObjRef → ℕ → List Cell → Type 0
IsObject os r class cells = (o : Live) × (live_at os r.serial ≡ Some o) × (o.class ≡ class) × (o.cells ≡ cells)

-- the object, where it is live, has a cell at the place
abbrev pub InRange : Objects → ObjRef → ℕ → Type 0
InRange os r place = (o : Live) → live_at os r.serial ≡ Some o → place < length o.cells

-- one more object was made, with the next serial
pub record Makes (old new : Objects) (r : ObjRef) (class : ℕ) (cells : List Cell) : Type 0 where
  pub serial : r.serial ≡ length old + 1
  pub added : new ≡ old ++ Some (record { key = r.key; class = class; cells = cells }) ∷ []

-- the object was live, and one of its cells has changed; all else stays
abbrev pub Writes : Objects → Objects → ObjRef → ℕ → Cell → Type 0
Writes old new r place cell =
    (o : Live) × (live_at old r.serial ≡ Some o)
    × (new ≡ slice_set old (r.serial - 1) (Some (record o { cells = slice_set o.cells place cell })))

-- the object was live, and is no more; all else stays
abbrev pub Frees : Objects → Objects → ObjRef → Type 0
Frees old new r = (o : Live) × (live_at old r.serial ≡ Some o) × (new ≡ slice_set old (r.serial - 1) None)
