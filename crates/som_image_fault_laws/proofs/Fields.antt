-- The fields of faces are local: what is read of each depends on no bytes behind it.
use Rattle.std.proofs.Common.{◌≡◌, ℕ, zero, suc, ◌+◌, ◌<◌, ◌≤◌, ◌==◌, ◌&&◌, ◌||◌, Bool, true, false, if◌then◌else◌, List, [], ◌∷◌, length, take, drop, Option, Some, None, Result, Ok, Err, arith}
use Rattle.std.specs.Prelude.{nat_le, nat_lt, slice_index}
use Rattle.std.specs.Int.{w8, w16, w32}
use Rattle.som_model.specs.declared.class.Way.TheVariants as ways
use Rattle.som_model.specs.declared.limits.TheConstants.{MAX_ENTRIES, MAX_PARAMETERS, MAX_PARENTS, MAX_VERSION}
use Rattle.som_model.specs.Steps.{◌>>=◌}
use Rattle.som_image_fields.specs.declared.fault.ImageFault.{ImageFault}
use Rattle.som_image_fields.specs.declared.fault.ImageFault.TheVariants as faults
use Rattle.som_image_fields.specs.declared.read.Read.{Read}
use Rattle.som_image_fields.specs.declared.kind.WireType.{WireType}
use Rattle.som_image_fields.specs.declared.kind.WireType.TheVariants as types
use Rattle.som_image_fields.specs.declared.sig.WireSig.{WireSig}
use Rattle.som_image_fields.specs.declared.entry.WireEntry.{WireEntry}
use Rattle.som_image_fields.specs.declared.entry.WireEntry.TheVariants as entries
use Rattle.som_image_fields.specs.declared.face.WireFace.{WireFace}
use Rattle.som_image_fields.specs.declared.method.WireMethod.{WireMethod}
use Rattle.som_image_fields.specs.declared.method.Ranges.{Ranges}
use Rattle.som_image_fields.specs.Fields.{counted_at, done}
use Rattle.som_image_fields.specs.Reading.{below_at, entry_at, face_at, flagged_at, kind_at, metaclass_at, method_at, number_at, sig_at, tagged_at, text_at, version_at}
use Rattle.som_wire.specs.Making.{Reads}
use Rattle.som_image_fault_laws.proofs.Local.{IsLocal, IsLocalField, after_field, after_number, bytes_local, counted_field, done_local, either_local, number_local, of_one_field, tag_local}

-- ---- numbers by their widths

module _ {B : Type 0} (next : Read ℕ → List ℕ → Result (Read B) ImageFault) (from place : ℕ) (le : from ≤ place) where
  pub after_byte : ((x : Read ℕ) → x.next ≡ place + 1 → IsLocal (next x) from x.next) → IsLocal (λ bytes. number_at w8 bytes place >>= λ x. next x bytes) from place
  after_byte rest = after_number w8 next from place le rest

  pub after_two : ((x : Read ℕ) → x.next ≡ place + 2 → IsLocal (next x) from x.next) → IsLocal (λ bytes. number_at w16 bytes place >>= λ x. next x bytes) from place
  after_two rest = after_number w16 next from place le rest

  pub after_four : ((x : Read ℕ) → x.next ≡ place + 4 → IsLocal (next x) from x.next) → IsLocal (λ bytes. number_at w32 bytes place >>= λ x. next x bytes) from place
  after_four rest = after_number w32 next from place le rest

one_some : 0 < 1
one_some = omega arith

one_few : 1 ≤ 4
one_few = omega arith

two_some : 0 < 2
two_some = omega arith

two_few : 2 ≤ 4
two_few = omega arith

-- as many as a number of one byte, or of two, says
pub few_field : {A : Type 0} (least most : ℕ) (one : Reads A) → IsLocalField one → IsLocalField (λ bytes. counted_at (number_at w8 bytes) least most (one bytes))
few_field least most one field = counted_field w8 one_some one_few least most one field

pub most_field : {A : Type 0} (least most : ℕ) (one : Reads A) → IsLocalField one → IsLocalField (λ bytes. counted_at (number_at w16 bytes) least most (one bytes))
most_field least most one field = counted_field w16 two_some two_few least most one field

-- one way or the other, by a test that looks at no bytes
pub pick : {A : Type 0} (b : Bool) {x y : List ℕ → Result (Read A) ImageFault} {from seen : ℕ} → IsLocal x from seen → IsLocal y from seen → IsLocal (λ bytes. if b then x bytes else y bytes) from seen
pick b {x = x} {y = y} {from = from} {seen = seen} p q = either_local b x y from seen p q

-- ---- texts and numbers

pub text_field : IsLocalField text_at
unfolding text_at
text_field from place le =
    after_two (λ len bytes. if nat_lt (length bytes) (len.next + len.value) then Err (faults.Cut (length bytes)) else done (take len.value (drop len.next bytes)) (len.next + len.value)) from place le
    (λ len is. bytes_local (λ (t : List ℕ). t) len.next len.value from)

pub below_field : (limit : ℕ) → IsLocalField (below_at limit)
unfolding below_at
below_field limit from place le =
    after_two (λ n bytes. if nat_lt n.value limit then Ok n else Err (faults.Number place)) from place le
    (λ n is. pick (nat_lt n.value limit) (done_local n from) (number_local from n.next place le (omega (arith, is)) (omega (arith, is))))

pub version_field : IsLocalField version_at
unfolding version_at
version_field from place le =
    after_four (λ n bytes. if nat_le n.value MAX_VERSION then Ok n else Err (faults.Number place)) from place le
    (λ n is. pick (nat_le n.value MAX_VERSION) (done_local n from) (number_local from n.next place le (omega (arith, is)) (omega (arith, is))))

-- ---- types and signatures

abbrev a_type : WireType → ℕ → Read WireType
a_type t next = record { value = t; next = next }

tagged_local : (classes : ℕ) (is_result : Bool) (from place : ℕ) (tag : Read ℕ) → from ≤ place → tag.next ≡ place + 1 → IsLocal (λ bytes. tagged_at classes is_result bytes place tag) from tag.next
tagged_local classes is_result from place tag le is =
    pick ((tag.value == 0) && is_result) (done_local (a_type types.Void tag.next) from)
    (pick (tag.value == 1) (done_local (a_type types.Long tag.next) from)
    (pick (tag.value == 2) (done_local (a_type types.Boolean tag.next) from)
    (pick (tag.value == 3) (done_local (a_type types.Str tag.next) from)
    (pick (tag.value == 4) (of_one_field (below_at classes) types.Class (below_field classes) from tag.next (omega (arith, le, is)))
    (tag_local from tag.next place le (omega (arith, is)) (omega (arith, is)))))))

pub kind_field : (classes : ℕ) (is_result : Bool) → IsLocalField (kind_at classes is_result)
unfolding kind_at
kind_field classes is_result from place le =
    after_byte (λ tag bytes. tagged_at classes is_result bytes place tag) from place le (λ tag is. tagged_local classes is_result from place tag le is)

abbrev a_sig : WireType → List WireType → WireSig
a_sig result params = record { result = result; params = params }

pub sig_field : (classes : ℕ) → IsLocalField (sig_at classes)
unfolding sig_at
sig_field classes from place le =
    after_field (kind_at classes true) (λ answer bytes. counted_at (number_at w8 bytes) 0 MAX_PARAMETERS (kind_at classes false bytes) answer.next >>= λ params. done (a_sig answer.value params.value) params.next) from place
    (kind_field classes true) le
    (λ answer past. of_one_field (λ bytes. counted_at (number_at w8 bytes) 0 MAX_PARAMETERS (kind_at classes false bytes)) (a_sig answer.value)
    (few_field 0 MAX_PARAMETERS (kind_at classes false) (kind_field classes false)) from answer.next (omega (arith, le, past)))

-- ---- entries and faces

flagged_local : (classes : ℕ) (name : Read (List ℕ)) (from : ℕ) (flag : Read ℕ) → from ≤ name.next → flag.next ≡ name.next + 1 → IsLocal (λ bytes. flagged_at classes bytes name flag) from flag.next
flagged_local classes name from flag le is =
    let low : from ≤ flag.next = omega (arith, le, is) in
    pick (flag.value == 0) (of_one_field (sig_at classes) (λ (s : WireSig). entries.Introduced name.value s ways.Offset) (sig_field classes) from flag.next low)
    (pick (flag.value == 1) (of_one_field (sig_at classes) (λ (s : WireSig). entries.Introduced name.value s ways.Lookup) (sig_field classes) from flag.next low)
    (pick (flag.value == 2) (of_one_field (below_at classes) (λ (to : ℕ). entries.Moved name.value to) (below_field classes) from flag.next low)
    (tag_local from flag.next name.next le (omega (arith, is)) (omega (arith, is)))))

pub entry_field : (classes : ℕ) → IsLocalField (entry_at classes)
unfolding entry_at
entry_field classes from place le =
    after_field text_at (λ name bytes. number_at w8 bytes name.next >>= flagged_at classes bytes name) from place text_field le
    (λ name past. let low : from ≤ name.next = omega (arith, le, past) in after_byte (λ flag bytes. flagged_at classes bytes name flag) from name.next low (λ flag is. flagged_local classes name from flag low is))

pub metaclass_field : (classes : ℕ) → IsLocalField (metaclass_at classes)
unfolding metaclass_at
metaclass_field classes from place le =
    after_byte (λ flag bytes. if flag.value == 0 then done None flag.next else (if flag.value == 1 then (below_at classes bytes flag.next >>= λ class. done (Some class.value) class.next) else Err (faults.Tag place))) from place le
    (λ flag is.
    let none : Read (Option ℕ) = record { value = None; next = flag.next } in
    pick (flag.value == 0) (done_local none from)
    (pick (flag.value == 1) (of_one_field (below_at classes) (λ (k : ℕ). Some k) (below_field classes) from flag.next (omega (arith, le, is)))
    (tag_local from flag.next place le (omega (arith, is)) (omega (arith, is)))))

-- what stands behind the metaclass, the parents, the versions and the name of a face
abbrev behind_metaclass : ℕ → Read (List ℕ) → Read ℕ → Read ℕ → Read (List ℕ) → Read (Option ℕ) → List ℕ → Result (Read WireFace) ImageFault
behind_metaclass classes name major minor parents metaclass bytes =
    counted_at (number_at w16 bytes) 0 MAX_ENTRIES (entry_at classes bytes) metaclass.next
    >>= λ es. done (record { name = name.value; major = major.value; minor = minor.value; parents = parents.value; metaclass = metaclass.value; entries = es.value }) es.next

abbrev behind_parents : ℕ → Read (List ℕ) → Read ℕ → Read ℕ → Read (List ℕ) → List ℕ → Result (Read WireFace) ImageFault
behind_parents classes name major minor parents bytes = metaclass_at classes bytes parents.next >>= λ metaclass. behind_metaclass classes name major minor parents metaclass bytes

abbrev behind_minor : ℕ → Read (List ℕ) → Read ℕ → Read ℕ → List ℕ → Result (Read WireFace) ImageFault
behind_minor classes name major minor bytes = counted_at (number_at w8 bytes) 1 MAX_PARENTS (below_at classes bytes) minor.next >>= λ parents. behind_parents classes name major minor parents bytes

abbrev behind_major : ℕ → Read (List ℕ) → Read ℕ → List ℕ → Result (Read WireFace) ImageFault
behind_major classes name major bytes = version_at bytes major.next >>= λ minor. behind_minor classes name major minor bytes

abbrev behind_name : ℕ → Read (List ℕ) → List ℕ → Result (Read WireFace) ImageFault
behind_name classes name bytes = version_at bytes name.next >>= λ major. behind_major classes name major bytes

pub face_field : (classes : ℕ) → IsLocalField (face_at classes)
unfolding face_at
face_field classes from place le =
    after_field text_at (behind_name classes) from place text_field le (λ name p1.
    let l1 : from ≤ name.next = omega (arith, le, p1) in
    after_field version_at (behind_major classes name) from name.next version_field l1 (λ major p2.
    let l2 : from ≤ major.next = omega (arith, l1, p2) in
    after_field version_at (behind_minor classes name major) from major.next version_field l2 (λ minor p3.
    let l3 : from ≤ minor.next = omega (arith, l2, p3) in
    after_field (λ bytes. counted_at (number_at w8 bytes) 1 MAX_PARENTS (below_at classes bytes)) (behind_parents classes name major minor) from minor.next (few_field 1 MAX_PARENTS (below_at classes) (below_field classes)) l3 (λ parents p4.
    let l4 : from ≤ parents.next = omega (arith, l3, p4) in
    after_field (metaclass_at classes) (behind_metaclass classes name major minor parents) from parents.next (metaclass_field classes) l4 (λ metaclass p5.
    let l5 : from ≤ metaclass.next = omega (arith, l4, p5) in
    of_one_field (λ bytes. counted_at (number_at w16 bytes) 0 MAX_ENTRIES (entry_at classes bytes))
    (λ (es : List WireEntry). let f : WireFace = record { name = name.value; major = major.value; minor = minor.value; parents = parents.value; metaclass = metaclass.value; entries = es } in f)
    (most_field 0 MAX_ENTRIES (entry_at classes) (entry_field classes)) from metaclass.next l5)))))

-- ---- methods

abbrev a_method : ℕ → ℕ → WireMethod
a_method class slot = record { class = class; slot = slot }

pub method_field : (ranges : Ranges) → IsLocalField (method_at ranges)
unfolding method_at
method_field ranges from place le =
    after_field (below_at ranges.classes) (λ class bytes. below_at (slice_index ranges.entries class.value) bytes class.next >>= λ slot. done (a_method class.value slot.value) slot.next) from place (below_field ranges.classes) le
    (λ class past. of_one_field (below_at (slice_index ranges.entries class.value)) (a_method class.value) (below_field (slice_index ranges.entries class.value)) from class.next
    (omega (arith, le, past)))
