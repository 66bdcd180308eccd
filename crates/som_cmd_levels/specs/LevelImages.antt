-- What reading a tower image at its place among other images answers.
use Rattle.std.specs.Prelude.{ℕ, ◌==◌, Bool, true, false, if◌then◌else◌, not, List, length, Result, Ok, Err}
use Rattle.som_model.specs.Steps.{◌>>=◌}
use Rattle.som_image_fields.specs.declared.fault.ImageFault.{ImageFault}
use Rattle.som_image_fields.specs.declared.fault.ImageFault.TheVariants as faults
use Rattle.som_towerimage.specs.declared.level.Level.{Level}
use Rattle.som_towerimage.specs.Reading.{level_at}
use Rattle.som_cmd_steps.specs.declared.stop.Refusal.{Refusal}
use Rattle.som_cmd_steps.specs.ImageSteps.{are_bytes, read_if, read_or}

-- the level that numbers are read as, or their first fault
abbrev pub level_in : List ℕ → Result Level ImageFault
level_in bytes = read_if (are_bytes bytes) (level_at bytes)

-- whether a level is a client, or a library, as it is asked
abbrev pub is_kind : Bool → Level → Bool
is_kind true l = l.client
is_kind false l = not l.client

-- a level of the kind that is asked; else the fault is that of its flag
abbrev pub of_kind : Bool → Level → Result Level ImageFault
of_kind client l = if is_kind client l then Ok l else Err (faults.Tag 6)

-- a level above as many levels as are asked, and of the kind that is asked; else the first fault is that of its number of levels, or that of its flag
abbrev pub in_place : ℕ → Bool → Level → Result Level ImageFault
in_place below client l = if length l.sizes == below then of_kind client l else Err (faults.Number 5)

-- the library that stands above others, however many, that numbers are read as
abbrev pub upper_in : List ℕ → Result Level ImageFault
upper_in bytes = level_in bytes >>= of_kind false

-- the level above so many others, a client or a library, that numbers are read as
abbrev pub placed_in : ℕ → Bool → List ℕ → Result Level ImageFault
placed_in below client bytes = level_in bytes >>= in_place below client

-- the library of a tower image under a name, above however many levels
abbrev pub upper_read : List ℕ → List ℕ → Result Level Refusal
upper_read name bytes = read_or name (upper_in bytes)

-- the level of a tower image under a name, above so many others, and a client or a library
abbrev pub level_read : ℕ → Bool → List ℕ → List ℕ → Result Level Refusal
level_read below client name bytes = read_or name (placed_in below client bytes)
