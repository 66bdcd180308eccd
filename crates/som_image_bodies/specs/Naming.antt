-- What reading came to, with what was read replaced by what it stands for.
use Rattle.std.specs.Prelude.{Result, Ok, Err}
use Rattle.som_image_fields.specs.declared.fault.ImageFault.{ImageFault}
use Rattle.som_image_fields.specs.declared.read.Read.{Read}

-- a value that was read, as what it stands for, and the place after it; a fault stays the same
abbrev pub naming : {A B : Type 0} → (A → B) → Result (Read A) ImageFault → Result (Read B) ImageFault
naming f (Ok r) = Ok (record { value = f r.value; next = r.next })
naming f (Err fault) = Err fault
