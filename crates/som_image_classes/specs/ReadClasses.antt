-- How what libraries and clients have in common is read from left to right: the head of an image, faces and parts.
use Rattle.std.specs.Prelude.{ℕ, ◌+◌, ◌==◌, ◌&&◌, nat_lt, nat_le, nat_eq, Bool, true, false, if◌then◌else◌, List, [], ◌∷◌, length, map, drop, Result, Ok, Err}
use Rattle.std.specs.List.{starts_with, count_by}
use Rattle.std.specs.Int.{w8, w16}
use Rattle.som_model.specs.declared.limits.TheConstants.{MAX_LIBRARY_CLASSES}
use Rattle.som_model.specs.Steps.{◌>>=◌}
use Rattle.som_image_fields.specs.declared.fault.ImageFault.{ImageFault}
use Rattle.som_image_fields.specs.declared.fault.ImageFault.TheVariants as faults
use Rattle.som_image_fields.specs.declared.read.Read.{Read}
use Rattle.som_image_fields.specs.declared.entry.WireEntry.{WireEntry}
use Rattle.som_image_fields.specs.declared.entry.WireEntry.TheVariants as entries
use Rattle.som_image_fields.specs.declared.face.WireFace.{WireFace}
use Rattle.som_image_fields.specs.declared.method.Ranges.{Ranges}
use Rattle.som_image_fields.specs.Fields.{done, many_at}
use Rattle.som_image_fields.specs.Reading.{number_at, face_at}
use Rattle.som_image_fields.specs.declared.syntax.WirePart.{WirePart}
use Rattle.som_image_fields.specs.declared.selects.WireSelects.{WireSelects}
use Rattle.som_wire.specs.Reading.{part_at, selects_at}

-- whether an entry is introduced
abbrev pub is_introduced : WireEntry → Bool
is_introduced (entries.Introduced name sig way) = true
is_introduced (entries.Moved name to) = false

-- how many entries a face introduces
abbrev pub introduced_count : WireFace → ℕ
introduced_count face = count_by is_introduced face.entries

-- a field for each of these, one after the other
unfoldable pub each_at : {A B : Type 0} → (A → ℕ → Result (Read B) ImageFault) → List A → ℕ → Result (Read (List B)) ImageFault
each_at one [] place = done [] place
each_at one (x ∷ xs) place = do
  first ← one x place
  others ← each_at one xs first.next
  done (first.value ∷ others.value) others.next

-- the kernel's four classes and those with these faces, with as many entries as each has
abbrev pub ranges_of : List WireFace → Ranges
ranges_of faces = record { classes = length faces + 4; entries = 9 ∷ 6 ∷ 1 ∷ 2 ∷ map (λ f. length f.entries) faces }

-- as many faces as the number says, which is at most so many; so many classes stand before them, and they name those and these alone
unfoldable pub faces_after_at : ℕ → ℕ → List ℕ → ℕ → Result (Read (List WireFace)) ImageFault
faces_after_at before most bytes place = do
  count ← number_at w16 bytes place
  if nat_lt most count.value then Err (faults.Number place) else many_at (face_at (count.value + before) bytes) count.value count.next

-- the faces of a library, after the kernel's four classes
abbrev pub faces_at : List ℕ → ℕ → Result (Read (List WireFace)) ImageFault
faces_at = faces_after_at 4 MAX_LIBRARY_CLASSES

-- a part for each of these faces
abbrev pub parts_at : Ranges → List WireFace → List ℕ → ℕ → Result (Read (List WirePart)) ImageFault
parts_at ranges faces bytes = each_at (λ face. part_at ranges (introduced_count face) bytes) faces

-- the bytes that an image begins with at a place; of bytes that end before, those that are there decide
abbrev pub magic_at : List ℕ → List ℕ → ℕ → Result ℕ ImageFault
magic_at magic bytes place =
    if starts_with nat_eq (drop place bytes) magic then Ok (place + length magic) else
    if starts_with nat_eq magic (drop place bytes) then Err (faults.Cut (length bytes)) else
    Err (faults.Magic place)

-- those, and then a version from 1 to the newest that is taken
unfoldable pub head_at : List ℕ → ℕ → List ℕ → ℕ → Result (Read ℕ) ImageFault
head_at magic newest bytes place = do
  start ← magic_at magic bytes place
  version ← number_at w8 bytes start
  if nat_le 1 version.value && nat_le version.value newest then Ok version else Err (faults.Version start)

-- the selects of the classes with the numbers from first on, in an image of a version: in version 1 there are none
abbrev pub section_at : ℕ → Ranges → ℕ → List ℕ → ℕ → Result (Read (List WireSelects)) ImageFault
section_at version ranges first bytes place = if version == 2 then selects_at ranges first bytes place else done [] place

-- what was read, where nothing more follows
abbrev pub at_end : {A : Type 0} → List ℕ → Read A → Result A ImageFault
at_end bytes read = if nat_lt read.next (length bytes) then Err (faults.Trailing read.next) else Ok read.value
