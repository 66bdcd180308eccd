-- Fields that stand one after the other in a list of bytes, and the first fault from the left.
use Rattle.std.specs.Prelude.{◌≡◌, ℕ, zero, suc, ◌+◌, ◌≤◌, List, [], ◌∷◌, ◌++◌, length, drop, Result, Ok, Err, nat_lt, ◌||◌, if◌then◌else◌}
use Rattle.som_model.specs.Steps.{◌>>=◌}
use Rattle.som_image_fields.specs.declared.fault.ImageFault.{ImageFault}
use Rattle.som_image_fields.specs.declared.fault.ImageFault.TheVariants as faults
use Rattle.som_image_fields.specs.declared.read.Read.{Read}

-- the text stands in the bytes from place up to next
pub record Stands (bytes : List ℕ) (place : ℕ) (text : List ℕ) (next : ℕ) : Type 0 where
  pub parts : drop place bytes ≡ text ++ drop next bytes
  pub moves : place + length text ≡ next
  pub within : next ≤ length bytes

-- reading came to a value, and to the place after it
abbrev pub done : {A : Type 0} → A → ℕ → Result (Read A) ImageFault
done x next = Ok (record { value = x; next = next })

-- a fault is the one that reading meets; want of memory may come at any time
abbrev pub Fails : {X : Type 0} → ImageFault → Result X ImageFault → Type 0
Fails faults.NoMemory read = Unit {0}
Fails fault read = read ≡ Err fault

-- what a reader answers is what reading comes to, unless memory runs out
abbrev pub Gives : {X : Type 0} → Result X ImageFault → Result X ImageFault → Type 0
Gives (Ok x) read = read ≡ Ok x
Gives (Err fault) read = Fails fault read

-- so many fields, one after the other
unfoldable pub many_at : {A : Type 0} → (ℕ → Result (Read A) ImageFault) → ℕ → ℕ → Result (Read (List A)) ImageFault
many_at one zero place = done [] place
many_at one (suc n) place = do
  first ← one place
  others ← many_at one n first.next
  done (first.value ∷ others.value) others.next

-- as many fields as the number at the place says, which is at least least and at most most
abbrev pub counted_at : {A : Type 0} → (ℕ → Result (Read ℕ) ImageFault) → ℕ → ℕ → (ℕ → Result (Read A) ImageFault) → ℕ → Result (Read (List A)) ImageFault
counted_at number least most one place = do
  count ← number place
  if nat_lt count.value least || nat_lt most count.value then Err (faults.Number place) else many_at one count.value count.next

-- of two values that fit, neither's spelling begins the other's; so two with one spelling are one
abbrev pub NoneBeginsAnother : {A : Type 0} → (A → List ℕ) → (A → Type 0) → Type 0
NoneBeginsAnother {A} spell Fits = (v w : A) (x y : List ℕ) → Fits v → Fits w → spell v ++ x ≡ spell w ++ y → (v ≡ w) × (x ≡ y)
