-- Where bytes stop being those of an image.
use Rattle.std.specs.Prelude.{◌≡◌, ℕ, ◌+◌, ◌<◌, ◌≤◌, List, ◌++◌, length, take, Option, Some, None, Result, Err}
use Rattle.som_image_fields.specs.declared.fault.ImageFault.{ImageFault}
use Rattle.som_image_fields.specs.declared.fault.ImageFault.TheVariants as faults

-- the place of the field that can't stand where it does; bytes that end too early, or go on after the end, have no such field
abbrev pub field_of : ImageFault → Option ℕ
field_of (faults.Magic p) = Some p
field_of (faults.Version p) = Some p
field_of (faults.Cut p) = None
field_of (faults.Tag p) = Some p
field_of (faults.Number p) = Some p
field_of (faults.Trailing p) = None
field_of (faults.Nesting p) = Some p
field_of faults.NoMemory = None

-- the bytes stop with this fault at the field of this place
pub record StopsAt {A : Type 0} (told : List ℕ → Result A ImageFault) (Spells : A → List ℕ → Type 0) (fault : ImageFault) (bytes : List ℕ) (place : ℕ) : Type 0 where
  -- where the field ends, which has four bytes at most
  pub ends : ℕ
  pub past : place < ends
  pub near : ends ≤ place + 4
  pub within : ends ≤ length bytes
  -- whatever follows the bytes up to and with this field, the fault is told of them
  pub stays : (more : List ℕ) → told (take ends bytes ++ more) ≡ Err fault
  -- so no image begins with them
  pub dead : (x : A) (more : List ℕ) → Spells x (take ends bytes ++ more) → ⊥
  -- and of no bytes that end before it anything is told but that they end
  pub before : (n : ℕ) → n ≤ place → told (take n bytes) ≡ Err (faults.Cut n)
