-- How each field is read at a place of the whole list of bytes.
use Rattle.std.specs.Prelude.{ℕ, ◌+◌, List, length, take, drop, slice_index, Option, Some, None, Bool, true, false, Result, Ok, Err, nat_lt, nat_le, ◌==◌, ◌&&◌, if◌then◌else◌}
use Rattle.std.specs.Int.{Width, w8, w16, w32, byte_len, from_be_bytes}
use Rattle.som_model.specs.declared.limits.TheConstants.{MAX_VERSION, MAX_PARAMETERS, MAX_PARENTS, MAX_ENTRIES}
use Rattle.som_model.specs.declared.class.Way.TheVariants as ways
use Rattle.som_model.specs.Steps.{◌>>=◌}
use Rattle.som_image_fields.specs.declared.fault.ImageFault.{ImageFault}
use Rattle.som_image_fields.specs.declared.fault.ImageFault.TheVariants as faults
use Rattle.som_image_fields.specs.declared.read.Read.{Read}
use Rattle.som_image_fields.specs.declared.kind.WireType.{WireType}
use Rattle.som_image_fields.specs.declared.kind.WireType.TheVariants as types
use Rattle.som_image_fields.specs.declared.sig.WireSig.{WireSig}
use Rattle.som_image_fields.specs.declared.entry.WireEntry.{WireEntry}
use Rattle.som_image_fields.specs.declared.entry.WireEntry.TheVariants as entries
use Rattle.som_image_fields.specs.declared.face.WireFace.{WireFace}
use Rattle.som_image_fields.specs.declared.method.WireMethod.{WireMethod}
use Rattle.som_image_fields.specs.declared.method.Ranges.{Ranges}
use Rattle.som_image_fields.specs.Fields.{done, counted_at}

-- a number of a width, which is cut where the bytes end before its last one
abbrev pub number_at : Width → List ℕ → ℕ → Result (Read ℕ) ImageFault
number_at w bytes place =
    if nat_lt (length bytes) (place + byte_len w) then Err (faults.Cut (length bytes)) else
    done (from_be_bytes w (take (byte_len w) (drop place bytes))) (place + byte_len w)

-- a length, and that many bytes
unfoldable pub text_at : List ℕ → ℕ → Result (Read (List ℕ)) ImageFault
text_at bytes place = do
  len ← number_at w16 bytes place
  if nat_lt (length bytes) (len.next + len.value) then Err (faults.Cut (length bytes)) else done (take len.value (drop len.next bytes)) (len.next + len.value)

-- a number of 2 bytes that is below a limit, as that of a class or a slot
unfoldable pub below_at : ℕ → List ℕ → ℕ → Result (Read ℕ) ImageFault
below_at limit bytes place = do
  n ← number_at w16 bytes place
  if nat_lt n.value limit then Ok n else Err (faults.Number place)

-- a major or minor version
unfoldable pub version_at : List ℕ → ℕ → Result (Read ℕ) ImageFault
version_at bytes place = do
  n ← number_at w32 bytes place
  if nat_le n.value MAX_VERSION then Ok n else Err (faults.Number place)

-- ---- types and signatures

-- what a tag of a type says, and a class after the tag 4
abbrev pub tagged_at : ℕ → Bool → List ℕ → ℕ → Read ℕ → Result (Read WireType) ImageFault
tagged_at classes is_result bytes place tag =
    if (tag.value == 0) && is_result then done types.Void tag.next else
    if tag.value == 1 then done types.Long tag.next else
    if tag.value == 2 then done types.Boolean tag.next else
    if tag.value == 3 then done types.Str tag.next else
    if tag.value == 4 then (below_at classes bytes tag.next >>= λ class. done (types.Class class.value) class.next) else
    Err (faults.Tag place)

unfoldable pub kind_at : ℕ → Bool → List ℕ → ℕ → Result (Read WireType) ImageFault
kind_at classes is_result bytes place = number_at w8 bytes place >>= tagged_at classes is_result bytes place

unfoldable pub sig_at : ℕ → List ℕ → ℕ → Result (Read WireSig) ImageFault
sig_at classes bytes place = do
  answer ← kind_at classes true bytes place
  params ← counted_at (number_at w8 bytes) 0 MAX_PARAMETERS (kind_at classes false bytes) answer.next
  done (record { result = answer.value; params = params.value }) params.next

-- ---- entries

-- an entry whose name and flag were read
abbrev pub flagged_at : ℕ → List ℕ → Read (List ℕ) → Read ℕ → Result (Read WireEntry) ImageFault
flagged_at classes bytes name flag =
    if flag.value == 0 then (sig_at classes bytes flag.next >>= λ s. done (entries.Introduced name.value s.value ways.Offset) s.next) else
    if flag.value == 1 then (sig_at classes bytes flag.next >>= λ s. done (entries.Introduced name.value s.value ways.Lookup) s.next) else
    if flag.value == 2 then (below_at classes bytes flag.next >>= λ to. done (entries.Moved name.value to.value) to.next) else
    Err (faults.Tag name.next)

unfoldable pub entry_at : ℕ → List ℕ → ℕ → Result (Read WireEntry) ImageFault
entry_at classes bytes place = do
  name ← text_at bytes place
  number_at w8 bytes name.next >>= flagged_at classes bytes name

-- ---- faces

-- no metaclass, or its class
unfoldable pub metaclass_at : ℕ → List ℕ → ℕ → Result (Read (Option ℕ)) ImageFault
metaclass_at classes bytes place = do
  flag ← number_at w8 bytes place
  if flag.value == 0 then done None flag.next else
      if flag.value == 1 then (below_at classes bytes flag.next >>= λ class. done (Some class.value) class.next) else
      Err (faults.Tag place)

unfoldable pub face_at : ℕ → List ℕ → ℕ → Result (Read WireFace) ImageFault
face_at classes bytes place = do
  name ← text_at bytes place
  major ← version_at bytes name.next
  minor ← version_at bytes major.next
  parents ← counted_at (number_at w8 bytes) 1 MAX_PARENTS (below_at classes bytes) minor.next
  metaclass ← metaclass_at classes bytes parents.next
  entries ← counted_at (number_at w16 bytes) 0 MAX_ENTRIES (entry_at classes bytes) metaclass.next
  done (record { name = name.value; major = major.value; minor = minor.value; parents = parents.value; metaclass = metaclass.value; entries = entries.value }) entries.next

-- ---- methods

unfoldable pub method_at : Ranges → List ℕ → ℕ → Result (Read WireMethod) ImageFault
method_at ranges bytes place = do
  class ← below_at ranges.classes bytes place
  slot ← below_at (slice_index ranges.entries class.value) bytes class.next
  done (record { class = class.value; slot = slot.value }) slot.next
