-- Where the bytes of levels of towers stop.
use Rattle.std.proofs.Common.{◌≡◌, ℕ, ◌+◌, ◌<◌, ◌≤◌, ◌==◌, ◌&&◌, Bool, true, false, if◌then◌else◌, List, length, take, Some, Result, Ok, Err, refl, sym, ◌∙◌, arith}
use Rattle.std.specs.Prelude.{codes, nat_le, nat_lt, sum}
use Rattle.std.specs.Int.{w16, w32}
use Rattle.som_model.specs.declared.limits.TheConstants.{MAX_CLIENT_CLASSES, MAX_LIBRARY_CLASSES}
use Rattle.som_model.specs.declared.program.ClientProgram.{ClientProgram}
use Rattle.som_model.specs.Bytes.{AreBytes}
use Rattle.som_model.specs.Steps.{◌>>=◌}
use Rattle.som_image_fields.specs.declared.fault.ImageFault.{ImageFault}
use Rattle.som_image_fields.specs.declared.fault.ImageFault.TheVariants as faults
use Rattle.som_image_fields.specs.declared.read.Read.{Read}
use Rattle.som_image_fields.specs.declared.face.WireFace.{WireFace}
use Rattle.som_image_fields.specs.declared.method.Ranges.{Ranges}
use Rattle.som_image_fields.specs.declared.syntax.WireBlock.{WireBlock}
use Rattle.som_image_fields.specs.declared.syntax.WirePart.{WirePart}
use Rattle.som_image_fields.specs.declared.selects.WireSelects.{WireSelects}
use Rattle.som_image_fields.specs.Fields.{done, many_at}
use Rattle.som_image_fields.specs.Reading.{face_at, number_at}
use Rattle.som_image_fields.specs.Fitting.{levels_left}
use Rattle.som_wire.specs.Reading.{block_at, stmt_at}
use Rattle.som_image_classes.specs.ReadClasses.{at_end, faces_after_at, faces_at, head_at, parts_at, section_at}
use Rattle.som_cliimage.specs.declared.form.ClientForm.{ClientForm}
use Rattle.som_cliimage.specs.declared.wire.WireProgram.{WireProgram}
use Rattle.som_cliimage.specs.Forms.{asked_at}
use Rattle.som_cliimage.specs.Naming.{program_named}
use Rattle.som_cliimage.specs.Reading.{client_ranges, own_faces_at, program_at, image_at}
use Rattle.som_towerimage.specs.declared.level.Level.{Level}
use Rattle.som_towerimage.specs.declared.level.TheConstants.{MAX_BELOW_CLIENT, MAX_BELOW_LIBRARY}
use Rattle.som_towerimage.specs.Reading.{below_at, flag_at, sizes_at, level_form, level_at}
use Rattle.som_towerimage.specs.Spelling.{SpellsLevel}
use Rattle.som_towerimage.proofs.LevelFields.{level_takes, level_again}
use Rattle.som_image_fault_laws.specs.Stopping.{StopsAt, field_of}
use Rattle.som_image_fault_laws.proofs.Local.{IsLocal, IsLocalField, after_field, bind_local, done_local, many_local, number_field, number_local, of_one_field, tag_local}
use Rattle.som_image_fault_laws.proofs.Fields.{after_byte, face_field, pick}
use Rattle.som_image_fault_laws.proofs.Syntax.{a_block, stmt_field}
use Rattle.som_image_fault_laws.proofs.Classes.{faces_field, head_local, parts_field, same_local, section_field}
use Rattle.som_image_fault_laws.proofs.Placed.{asked_local, head_there}
use Rattle.som_image_fault_laws.proofs.Images.{bytes_front, four_few, four_some, over, steps}
use Rattle.som_image_fault_laws.proofs.Stopping.{cut_there, goes_on, stops, told}

-- ---- client images of a form

-- the faces of the base, and main, with the tests of their counts
abbrev base_read : ClientForm → ℕ → List ℕ → Result (Read (List WireFace)) ImageFault
base_read form place bytes = asked_at w16 form.base_classes bytes place >>= λ u. faces_at bytes place

base_local : (form : ClientForm) (from place : ℕ) → from ≤ place → IsLocal (base_read form place) from place
unfolding faces_after_at
base_local form from place le =
    asked_local w16 (omega arith) (omega arith) form.base_classes (λ count bytes. if nat_lt MAX_LIBRARY_CLASSES count.value then Err (faults.Number place) else many_at (face_at (count.value + 4) bytes) count.value count.next) from place le
    (λ count is. pick (nat_lt MAX_LIBRARY_CLASSES count.value) (number_local from count.next place le (omega (arith, is)) (omega (arith, is)))
    (many_local (face_at (count.value + 4)) (face_field (count.value + 4)) count.value from count.next (omega (arith, le, is))))

abbrev main_read : ClientForm → Ranges → ℕ → List ℕ → Result (Read WireBlock) ImageFault
main_read form ranges place bytes = asked_at w32 form.statements bytes place >>= λ u. block_at (levels_left 1) ranges bytes place

main_local : (form : ClientForm) (ranges : Ranges) (from place : ℕ) → from ≤ place → IsLocal (main_read form ranges place) from place
unfolding block_at
main_local form ranges from place le =
    asked_local w32 (omega arith) (omega arith) form.statements (λ count bytes. many_at (stmt_at (levels_left 1) ranges bytes) count.value count.next >>= λ ss. done (a_block ss.value) ss.next) from place le
    (λ count is. of_one_field (λ bytes place. many_at (stmt_at (levels_left 1) ranges bytes) count.value place) a_block (λ f p l. many_local (stmt_at (levels_left 1) ranges) (stmt_field (levels_left 1) ranges) count.value f p l) from count.next (omega (arith, le, is)))

abbrev a_program : List WireFace → List WireFace → List WirePart → List WireSelects → WireBlock → WireProgram
a_program base own ps ss main = record { base = base; faces = own; parts = ps; selects = ss; main = main }

abbrev ending : List WireFace → List WireFace → List WirePart → List WireSelects → Read WireBlock → Result (Read WireProgram) ImageFault
ending base own ps ss main = done (a_program base own ps ss main.value) main.next

module _ (form : ClientForm) where
  abbrev main_behind : List WireFace → List WireFace → List WirePart → List WireSelects → ℕ → List ℕ → Result (Read WireProgram) ImageFault
  main_behind base own ps ss place bytes = asked_at w32 form.statements bytes place >>= λ u. block_at (levels_left 1) (client_ranges base own) bytes place >>= ending base own ps ss

  main_ends : (base own : List WireFace) (ps : List WirePart) (ss : List WireSelects) (from place : ℕ) → from ≤ place → IsLocal (main_behind base own ps ss place) from place
  main_ends base own ps ss from place le =
      same_local (main_behind base own ps ss place) (λ bytes. main_read form (client_ranges base own) place bytes >>= ending base own ps ss) from place
      (λ bytes. steps (asked_at w32 form.statements bytes place) (λ u. block_at (levels_left 1) (client_ranges base own) bytes place) (ending base own ps ss))
      (bind_local (main_read form (client_ranges base own) place) (λ main bytes. ending base own ps ss main) from place (main_local form (client_ranges base own) from place le)
      (λ main bytes past is. (let made : Read WireProgram = record { value = a_program base own ps ss main.value; next = main.next } in done_local made from)))

  abbrev selects_behind : ℕ → List WireFace → List WireFace → List WirePart → ℕ → List ℕ → Result (Read WireProgram) ImageFault
  selects_behind version base own ps place bytes = section_at version (client_ranges base own) (length base + 4) bytes place >>= λ ss. main_behind base own ps ss.value ss.next bytes

  abbrev parts_behind : ℕ → List WireFace → List WireFace → ℕ → List ℕ → Result (Read WireProgram) ImageFault
  parts_behind version base own place bytes = parts_at (client_ranges base own) own bytes place >>= λ ps. selects_behind version base own ps.value ps.next bytes

  abbrev own_behind : ℕ → Read (List WireFace) → List ℕ → Result (Read WireProgram) ImageFault
  own_behind version base bytes = own_faces_at base.value bytes base.next >>= λ own. parts_behind version base.value own.value own.next bytes

  program_there : (version from place : ℕ) → from ≤ place → IsLocal (λ bytes. program_at form version bytes place) from place
  unfolding program_at
  program_there version from place le =
      same_local (λ bytes. program_at form version bytes place) (λ bytes. base_read form place bytes >>= λ base. own_behind version base bytes) from place
      (λ bytes. steps (asked_at w16 form.base_classes bytes place) (λ u. faces_at bytes place) (λ base. own_behind version base bytes))
      (bind_local (base_read form place) (λ base bytes. own_behind version base bytes) from place (base_local form from place le) (λ base bytes p1 is.
      let l1 : from ≤ base.next = omega (arith, le, p1) in
      after_field (own_faces_at base.value) (λ own bytes. parts_behind version base.value own.value own.next bytes) from base.next (faces_field (length base.value + 4) MAX_CLIENT_CLASSES) l1 (λ own p2.
      let l2 : from ≤ own.next = omega (arith, l1, p2) in
      let ranges = client_ranges base.value own.value in
      after_field (parts_at ranges own.value) (λ ps bytes. selects_behind version base.value own.value ps.value ps.next bytes) from own.next (parts_field ranges own.value) l2 (λ ps p3.
      let l3 : from ≤ ps.next = omega (arith, l2, p3) in
      after_field (section_at version ranges (length base.value + 4)) (λ ss bytes. main_behind base.value own.value ps.value ss.value ss.next bytes) from ps.next (section_field version ranges (length base.value + 4)) l3 (λ ss p4.
      main_ends base.value own.value ps.value ss.value from ss.next (omega (arith, l3, p4)))))))

-- ---- levels

-- a level with numbers
record WireLevel : Type 0 where
  sizes : List ℕ
  client : Bool
  program : WireProgram

abbrev a_level : List ℕ → Bool → WireProgram → WireLevel
a_level sizes client w = record { sizes = sizes; client = client; program = w }

abbrev level_named : WireLevel → Level
level_named l = record { sizes = l.sizes; program = program_named l.program; client = l.client }

abbrev program_behind : List ℕ → Bool → Read ℕ → List ℕ → Result (Read WireLevel) ImageFault
program_behind sizes client version bytes = program_at (level_form (sum sizes) client) version.value bytes version.next >>= λ w. done (a_level sizes client w.value) w.next

abbrev image_behind : Bool → Read (List ℕ) → List ℕ → Result (Read WireLevel) ImageFault
image_behind client sizes bytes = head_at (codes "SOMC") 2 bytes sizes.next >>= λ version. program_behind sizes.value client version bytes

abbrev sizes_behind : ℕ → Read Bool → List ℕ → Result (Read WireLevel) ImageFault
sizes_behind below client bytes = sizes_at below bytes client.next >>= λ sizes. image_behind client.value sizes bytes

abbrev flag_behind : Read ℕ → List ℕ → Result (Read WireLevel) ImageFault
flag_behind below bytes = flag_at below.value bytes below.next >>= λ client. sizes_behind below.value client bytes

abbrev below_behind : Read ℕ → List ℕ → Result (Read WireLevel) ImageFault
below_behind version bytes = below_at bytes version.next >>= λ below. flag_behind below bytes

abbrev level_read : List ℕ → Result (Read WireLevel) ImageFault
level_read bytes = head_at (codes "SOMT") 1 bytes 0 >>= λ version. below_behind version bytes

below_field : IsLocalField below_at
below_field from place le =
    after_byte (λ below bytes. if nat_le 1 below.value && nat_le below.value MAX_BELOW_CLIENT then Ok below else Err (faults.Number place)) from place le
    (λ below is. pick (nat_le 1 below.value && nat_le below.value MAX_BELOW_CLIENT) (done_local below from) (number_local from below.next place le (omega (arith, is)) (omega (arith, is))))

flag_field : (below : ℕ) → IsLocalField (flag_at below)
flag_field below from place le =
    after_byte (λ flag bytes. if flag.value == 1 then done true flag.next else (if (flag.value == 0) && nat_le below MAX_BELOW_LIBRARY then done false flag.next else Err (faults.Tag place))) from place le
    (λ flag is.
    let yes_client : Read Bool = record { value = true; next = flag.next } in
    let no_client : Read Bool = record { value = false; next = flag.next } in
    pick (flag.value == 1) (done_local yes_client from)
    (pick ((flag.value == 0) && nat_le below MAX_BELOW_LIBRARY) (done_local no_client from) (tag_local from flag.next place le (omega (arith, is)) (omega (arith, is)))))

sizes_field : (below : ℕ) → IsLocalField (sizes_at below)
sizes_field below from place le = many_local (number_at w16) (number_field w16) below from place le

image_local : (client : Bool) (sizes : Read (List ℕ)) → IsLocal (image_behind client sizes) 0 sizes.next
image_local client sizes =
    bind_local (λ bytes. head_at (codes "SOMC") 2 bytes sizes.next) (λ version bytes. program_behind sizes.value client version bytes) 0 sizes.next (head_there (codes "SOMC") four_some four_few 2 0 sizes.next (omega arith))
    (λ version bytes past is.
    bind_local (λ bytes. program_at (level_form (sum sizes.value) client) version.value bytes version.next) (λ w bytes. done (a_level sizes.value client w.value) w.next) 0 version.next (program_there (level_form (sum sizes.value) client) version.value 0 version.next (omega arith))
    (λ w bytes past is. (let made : Read WireLevel = record { value = a_level sizes.value client w.value; next = w.next } in done_local made 0)))

level_local : IsLocal level_read 0 0
level_local =
    bind_local (λ bytes. head_at (codes "SOMT") 1 bytes 0) (λ version bytes. below_behind version bytes) 0 0 (head_local (codes "SOMT") four_some four_few 1) (λ version bytes p1 is.
    after_field below_at (λ below bytes. flag_behind below bytes) 0 version.next below_field (omega arith) (λ below p2.
    after_field (flag_at below.value) (λ client bytes. sizes_behind below.value client bytes) 0 below.next (flag_field below.value) (omega arith) (λ client p3.
    after_field (sizes_at below.value) (λ sizes bytes. image_behind client.value sizes bytes) 0 client.next (sizes_field below.value) (omega arith) (λ sizes p4. image_local client.value sizes))))

-- ---- the same, written in another way

into : {A B C : Type 0} (r : Result A ImageFault) (f : A → Result C ImageFault) (g : A → Result B ImageFault) (h : B → Result C ImageFault) → ((x : A) → f x ≡ (g x >>= h)) → (r >>= f) ≡ ((r >>= g) >>= h)
into (Ok x) f g h same = same x
into (Err e) f g h same = refl

abbrev finish : List ℕ → Read WireLevel → Result Level ImageFault
finish bytes l = at_end bytes l >>= λ w. Ok (level_named w)

abbrev named : WireProgram → Result ClientProgram ImageFault
named w = Ok (program_named w)

abbrev levelled : List ℕ → Bool → ClientProgram → Result Level ImageFault
levelled sizes client p = Ok (record { sizes = sizes; program = p; client = client })

program_into : (sizes : List ℕ) (client : Bool) (bytes : List ℕ) (r : Result (Read WireProgram) ImageFault) → (((r >>= at_end bytes) >>= named) >>= levelled sizes client) ≡ ((r >>= λ w. done (a_level sizes client w.value) w.next) >>= finish bytes)
program_into sizes client bytes (Err e) = refl
program_into sizes client bytes (Ok w) = by (nat_lt w.next (length bytes))
  where
    by : (b : Bool) → (((if b then Err (faults.Trailing w.next) else Ok w.value) >>= named) >>= levelled sizes client) ≡ ((if b then Err (faults.Trailing w.next) else Ok (a_level sizes client w.value)) >>= λ (l : WireLevel). Ok (level_named l))
    by true = refl
    by false = refl

image_into : (sizes : Read (List ℕ)) (client : Bool) (bytes : List ℕ) (r : Result (Read ℕ) ImageFault)
    → (((r >>= λ version. program_at (level_form (sum sizes.value) client) version.value bytes version.next >>= at_end bytes) >>= named) >>= levelled sizes.value client) ≡ ((r >>= λ version. program_behind sizes.value client version bytes) >>= finish bytes)
image_into sizes client bytes (Err e) = refl
image_into sizes client bytes (Ok version) = program_into sizes.value client bytes (program_at (level_form (sum sizes.value) client) version.value bytes version.next)

level_is : (bytes : List ℕ) → level_at bytes ≡ told level_read level_local level_named bytes
unfolding level_at image_at
level_is bytes =
    into (head_at (codes "SOMT") 1 bytes 0) _ (λ version. below_behind version bytes) (finish bytes) (λ version.
    into (below_at bytes version.next) _ (λ below. flag_behind below bytes) (finish bytes) (λ below.
    into (flag_at below.value bytes below.next) _ (λ client. sizes_behind below.value client bytes) (finish bytes) (λ client.
    into (sizes_at below.value bytes client.next) _ (λ sizes. image_behind client.value sizes bytes) (finish bytes) (λ sizes.
    image_into sizes client.value bytes (head_at (codes "SOMC") 2 bytes sizes.next)))))
    ∙ steps (level_read bytes) (at_end bytes) (λ w. Ok (level_named w))

-- ---- where bytes stop

pub level_stops : (bytes : List ℕ) (f : ImageFault) (p : ℕ) → level_at bytes ≡ Err f → field_of f ≡ Some p → StopsAt level_at SpellsLevel f bytes p
level_stops bytes f p e at =
    over level_at (told level_read level_local level_named) SpellsLevel f bytes p level_is
    (stops level_read level_local level_named SpellsLevel (λ b x s. sym (level_is b) ∙ level_again x b s) bytes f p (sym (level_is bytes) ∙ e) at)

pub level_cut : (bytes : List ℕ) (p : ℕ) → level_at bytes ≡ Err (faults.Cut p) → p ≡ length bytes
level_cut bytes p e = cut_there level_read level_local level_named bytes p (sym (level_is bytes) ∙ e)

pub level_goes_on : (bytes : List ℕ) (p : ℕ) → AreBytes bytes → level_at bytes ≡ Err (faults.Trailing p) → (p < length bytes) × (l : Level) × SpellsLevel l (take p bytes)
level_goes_on bytes p all e =
    let r = goes_on level_read level_local level_named bytes p (sym (level_is bytes) ∙ e) in
    (r.0, r.1, level_takes (take p bytes) (bytes_front p bytes all) r.1 (level_is (take p bytes) ∙ r.2))
