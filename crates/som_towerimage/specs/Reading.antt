-- How a tower image is read from left to right: each field at its place, and the first fault.
use Rattle.std.specs.Prelude.{ℕ, ◌==◌, ◌&&◌, nat_le, Bool, true, false, if◌then◌else◌, List, sum, codes, Option, Some, None, Result, Ok, Err}
use Rattle.std.specs.Int.{w8, w16}
use Rattle.som_model.specs.Steps.{◌>>=◌}
use Rattle.som_image_fields.specs.declared.fault.ImageFault.{ImageFault}
use Rattle.som_image_fields.specs.declared.fault.ImageFault.TheVariants as faults
use Rattle.som_image_fields.specs.declared.read.Read.{Read}
use Rattle.som_image_fields.specs.Fields.{done, many_at}
use Rattle.som_image_fields.specs.Reading.{number_at}
use Rattle.som_image_classes.specs.ReadClasses.{head_at}
use Rattle.som_cliimage.specs.declared.form.ClientForm.{ClientForm}
use Rattle.som_cliimage.specs.Programs.{client_from}
use Rattle.som_towerimage.specs.declared.level.TheConstants.{MAX_BELOW_CLIENT, MAX_BELOW_LIBRARY}
use Rattle.som_towerimage.specs.declared.level.Level.{Level}

-- how many levels are below: one at least, and not more than below a client
abbrev pub below_at : List ℕ → ℕ → Result (Read ℕ) ImageFault
below_at bytes place = do
  below ← number_at w8 bytes place
  if nat_le 1 below.value && nat_le below.value MAX_BELOW_CLIENT then Ok below else Err (faults.Number place)

-- 1 for a client; 0 for a library, where there are not more levels below than a library may have
abbrev pub flag_at : ℕ → List ℕ → ℕ → Result (Read Bool) ImageFault
flag_at below bytes place = do
  flag ← number_at w8 bytes place
  if flag.value == 1 then done true flag.next else
      if (flag.value == 0) && nat_le below MAX_BELOW_LIBRARY then done false flag.next else
      Err (faults.Tag place)

-- how many classes each of so many levels has
abbrev pub sizes_at : ℕ → List ℕ → ℕ → Result (Read (List ℕ)) ImageFault
sizes_at below bytes = many_at (number_at w16 bytes) below

-- no statement in a library's main, and any number of them in a client's
abbrev pub statements_of : Bool → Option ℕ
statements_of false = Some 0
statements_of true = None

-- what is asked of the client image: its base has so many classes, and a library's main is empty
abbrev pub level_form : ℕ → Bool → ClientForm
level_form classes client = record { base_classes = Some classes; statements = statements_of client }

-- `SOMT` and version 1, the levels below, whether it is a client, their sizes, and a client image over all their classes
unfoldable pub level_at : List ℕ → Result Level ImageFault
level_at bytes = do
  version ← head_at (codes "SOMT") 1 bytes 0
  below ← below_at bytes version.next
  client ← flag_at below.value bytes below.next
  sizes ← sizes_at below.value bytes client.next
  program ← client_from (level_form (sum sizes.value) client.value) bytes sizes.next
  Ok (record { sizes = sizes.value; program = program; client = client.value })
