-- What libraries and clients have in common is local: the head, faces, parts and selects.
use Rattle.std.proofs.Common.{◌≡◌, ℕ, zero, suc, ◌+◌, ◌<◌, ◌≤◌, ◌==◌, ◌&&◌, Bool, true, false, if◌then◌else◌, List, [], ◌∷◌, length, take, drop, Result, Ok, Err, refl, sym, ap, ◌∙◌, subst, arith, true≢false}
use Rattle.std.specs.Prelude.{nat_eq, nat_le, nat_lt, codes}
use Rattle.std.specs.Cmp.Lexicographic.{pointwise, same_text}
use Rattle.std.specs.List.{starts_with}
use Rattle.std.specs.Int.{w8, w16}
use Rattle.std.proofs.Math.Seq.{take-length}
use Rattle.std.proofs.lemmas.Bool.{ltb-false, ltb-true}
use Rattle.std.proofs.lemmas.List.{length-take, take-take, take_all}
use Rattle.som_model.specs.Steps.{◌>>=◌}
use Rattle.som_image_fields.specs.declared.fault.ImageFault.{ImageFault}
use Rattle.som_image_fields.specs.declared.fault.ImageFault.TheVariants as faults
use Rattle.som_image_fields.specs.declared.read.Read.{Read}
use Rattle.som_image_fields.specs.declared.face.WireFace.{WireFace}
use Rattle.som_image_fields.specs.declared.method.Ranges.{Ranges}
use Rattle.som_image_fields.specs.declared.syntax.WirePart.{WirePart}
use Rattle.som_image_fields.specs.declared.selects.WireSelects.{WireSelects}
use Rattle.som_image_fields.specs.Fields.{done, many_at}
use Rattle.som_image_fields.specs.Reading.{face_at, number_at}
use Rattle.som_wire.specs.Making.{Reads}
use Rattle.som_wire.specs.Reading.{part_at, selects_at}
use Rattle.som_image_classes.specs.ReadClasses.{each_at, faces_after_at, head_at, introduced_count, magic_at, parts_at, section_at}
use Rattle.som_image_fault_laws.proofs.Local.{Begins, IsFirm, IsLocal, IsLocalField, IsRead, IsTold, after_field, bind_local, done_local, many_local, number_local, of_one_field, shorter, version_local}
use Rattle.som_image_fault_laws.proofs.Fields.{after_byte, after_two, face_field, pick}
use Rattle.som_image_fault_laws.proofs.Syntax.{part_field, selects_field}

-- ---- faces, parts and selects

pub faces_field : (before most : ℕ) → IsLocalField (faces_after_at before most)
unfolding faces_after_at
faces_field before most from place le =
    after_two (λ count bytes. if nat_lt most count.value then Err (faults.Number place) else many_at (face_at (count.value + before) bytes) count.value count.next) from place le
    (λ count is. pick (nat_lt most count.value) (number_local from count.next place le (omega (arith, is)) (omega (arith, is)))
    (many_local (face_at (count.value + before)) (face_field (count.value + before)) count.value from count.next (omega (arith, le, is))))

parts_local : (ranges : Ranges) (fs : List WireFace) → IsLocalField (parts_at ranges fs)
unfolding each_at
parts_local ranges [] from place le = let none : Read (List WirePart) = record { value = []; next = place } in done_local none from
parts_local ranges (f ∷ fs) from place le =
    after_field (part_at ranges (introduced_count f)) (λ first bytes. parts_at ranges fs bytes first.next >>= λ others. done (first.value ∷ others.value) others.next) from place (part_field ranges (introduced_count f)) le
    (λ first past. of_one_field (parts_at ranges fs) (λ (ps : List WirePart). first.value ∷ ps) (parts_local ranges fs) from first.next (omega (arith, le, past)))

pub parts_field : (ranges : Ranges) (fs : List WireFace) → IsLocalField (parts_at ranges fs)
parts_field ranges fs = parts_local ranges fs

pub section_field : (version : ℕ) (ranges : Ranges) (first : ℕ) → IsLocalField (section_at version ranges first)
section_field version ranges first from place le =
    let none : Read (List WireSelects) = record { value = []; next = place } in pick (version == 2) (selects_field ranges first from place le) (done_local none from)

-- ---- the head

-- bytes with which an image begins
pub record IsMagic (magic : List ℕ) : Type 0 where
  pub some : 0 < length magic
  pub few : length magic ≤ 4

abbrev pub starts : List ℕ → List ℕ → Bool
starts magic bytes = starts_with nat_eq bytes magic

abbrev pub begins_so : List ℕ → List ℕ → Bool
begins_so magic bytes = starts_with nat_eq magic bytes

abbrev pub after_magic : ℕ → Read ℕ
after_magic n = record { value = 0; next = n }

-- those bytes, as a field
abbrev pub magic_read : List ℕ → List ℕ → Result (Read ℕ) ImageFault
magic_read magic bytes = if starts magic bytes then Ok (after_magic (length magic)) else (if begins_so magic bytes then Err (faults.Cut (length bytes)) else Err (faults.Magic 0))

same_self : (xs : List ℕ) → pointwise nat_eq xs xs ≡ true
same_self [] = refl
same_self (x ∷ xs) = let one : nat_eq x x ≡ true = grind arith in rw (one, same_self xs) refl

module _ (magic : List ℕ) (short : IsMagic magic) where
  abbrev pub read : List ℕ → Result (Read ℕ) ImageFault
  read = magic_read magic

  -- what the two tests say
  pub starts_is : (bytes : List ℕ) → starts magic bytes ≡ true → magic ≡ take (length magic) bytes
  starts_is bytes e = same_text magic (take (length magic) bytes) (sym e)

  begins_is : (bytes : List ℕ) → begins_so magic bytes ≡ true → bytes ≡ take (length bytes) magic
  begins_is bytes e = same_text bytes (take (length bytes) magic) (sym e)

  not_so : (b : Bool) → (b ≡ true → ⊥) → b ≡ false
  not_so true f = absurd (f refl)
  not_so false f = refl

  mismatch : (other : List ℕ) → starts magic other ≡ false → begins_so magic other ≡ false → read other ≡ Err (faults.Magic 0)
  mismatch other e f = rw (e, f) refl

  -- bytes that are long enough: the first of them decide
  long_stays : (bytes other : List ℕ) → starts magic bytes ≡ false → length magic ≤ length bytes → Begins (length magic) bytes other → read other ≡ Err (faults.Magic 0)
  long_stays bytes other e le b =
      let first : starts magic other ≡ false = ap (λ (t : List ℕ). pointwise nat_eq magic t) b.same ∙ e in
      mismatch other first
      (not_so (begins_so magic other) (λ t.
      let whole : other ≡ magic = begins_is other t ∙ take_all (length other) magic b.long in
      let here : magic ≡ take (length magic) other = sym (take_all (length magic) magic (omega arith)) ∙ ap (take (length magic)) (sym whole) in
      let again : starts magic other ≡ true = ap (λ (t : List ℕ). pointwise nat_eq magic t) (sym here) ∙ same_self magic in
      true≢false (sym again ∙ first)))

  -- bytes that aren't: all of them decide
  short_stays : (bytes other : List ℕ) → begins_so magic bytes ≡ false → length bytes ≤ length magic → Begins (length bytes) bytes other → read other ≡ Err (faults.Magic 0)
  short_stays bytes other e le b =
      let front : take (length bytes) other ≡ bytes = b.same ∙ take-length bytes in
      mismatch other
      (not_so (starts magic other) (λ t.
      let is : take (length bytes) magic ≡ take (length bytes) other = ap (take (length bytes)) (starts_is other t) ∙ take-take (length bytes) (length magic) other le in
      wrong (front ∙ refl) is))
      (not_so (begins_so magic other) (λ t.
      let is : take (length bytes) other ≡ take (length bytes) magic = ap (take (length bytes)) (begins_is other t) ∙ take-take (length bytes) (length other) magic b.long in
      wrong front (sym is)))
    where
      wrong : take (length bytes) other ≡ bytes → take (length bytes) magic ≡ take (length bytes) other → ⊥
      wrong f g = true≢false (sym (ap (λ (t : List ℕ). pointwise nat_eq bytes t) (g ∙ f) ∙ same_self bytes) ∙ e)

  some_bytes : (bytes : List ℕ) → begins_so magic bytes ≡ false → 0 < length bytes
  some_bytes [] e = absurd (let z : true ≡ false = e in true≢false z)
  some_bytes (b ∷ bytes) e = omega arith

  pub long_enough : (bytes : List ℕ) → magic ≡ take (length magic) bytes → length magic ≤ length bytes
  long_enough bytes e = let n : length magic ≡ length (take (length magic) bytes) = ap (λ (t : List ℕ). length t) e in omega (arith, n, length-take (length magic) bytes)

  pub magic_told : (bytes : List ℕ) → starts magic bytes ≡ false → begins_so magic bytes ≡ false → (b : Bool) → nat_lt (length bytes) (length magic) ≡ b → IsFirm read 0 0 bytes (faults.Magic 0) 0
  magic_told bytes e f false is =
      let le : length magic ≤ length bytes = ltb-false (length bytes) (length magic) is in
      record { ends = length magic; after = omega arith; past = short.some; near = short.few; seen_is = omega arith; within = le; stays = λ other b. long_stays bytes other e le b }
  magic_told bytes e f true is =
      let lt : length bytes < length magic = ltb-true (length bytes) (length magic) is in
      let le : length bytes ≤ length magic = omega (arith, lt) in
      record { ends = length bytes; after = omega arith; past = some_bytes bytes f; near = omega (arith, le, short.few); seen_is = omega arith; within = omega arith; stays = λ other b. short_stays bytes other f le b }

  magic_ok : (bytes : List ℕ) (x : Read ℕ) (b c : Bool) → starts magic bytes ≡ b → begins_so magic bytes ≡ c → (if b then Ok (after_magic (length magic)) else (if c then Err (faults.Cut (length bytes)) else Err (faults.Magic 0))) ≡ Ok x → IsRead read 0 bytes x.next x
  magic_ok bytes x true c e f h =
      let same : after_magic (length magic) ≡ x = (let z = h in cc) in
      subst (λ (z : Read ℕ). IsRead read 0 bytes z.next z) same
      (record { past = omega arith; within = long_enough bytes (starts_is bytes e); stays = λ other b. (let is : starts magic other ≡ true = ap (λ (t : List ℕ). pointwise nat_eq magic t) b.same ∙ e in rw is refl) })
  magic_ok bytes x false true e f h = absurd (let z = h in cc)
  magic_ok bytes x false false e f h = absurd (let z = h in cc)

  magic_fault : (bytes : List ℕ) (g : ImageFault) (b c : Bool) → starts magic bytes ≡ b → begins_so magic bytes ≡ c → (if b then Ok (after_magic (length magic)) else (if c then Err (faults.Cut (length bytes)) else Err (faults.Magic 0))) ≡ Err g → IsTold read 0 0 bytes g
  magic_fault bytes g true c e f h = absurd (let z = h in cc)
  magic_fault bytes g false true e f h = let same : faults.Cut (length bytes) ≡ g = (let z = h in cc) in subst (IsTold read 0 0 bytes) same refl
  magic_fault bytes g false false e f h =
      let same : faults.Magic 0 ≡ g = (let z = h in cc) in subst (IsTold read 0 0 bytes) same (magic_told bytes e f (nat_lt (length bytes) (length magic)) refl)

  magic_local : IsLocal read 0 0
  magic_local = record { ok = λ bytes x le h. magic_ok bytes x (starts magic bytes) (begins_so magic bytes) refl refl h; fault = λ bytes g le h. magic_fault bytes g (starts magic bytes) (begins_so magic bytes) refl refl h }

  -- the version behind them
  abbrev version_after : ℕ → ℕ → List ℕ → Result (Read ℕ) ImageFault
  version_after newest place bytes = number_at w8 bytes place >>= λ version. if nat_le 1 version.value && nat_le version.value newest then Ok version else Err (faults.Version place)

  version_at_local : (newest place : ℕ) → IsLocal (version_after newest place) 0 place
  version_at_local newest place =
      after_byte (λ version bytes. if nat_le 1 version.value && nat_le version.value newest then Ok version else Err (faults.Version place)) 0 place (omega arith)
      (λ version is. pick (nat_le 1 version.value && nat_le version.value newest) (done_local version 0) (version_local 0 version.next place (omega arith) (omega (arith, is)) (omega (arith, is))))

  head_is : (newest : ℕ) (bytes : List ℕ) (b c : Bool) → ((if b then Ok (0 + length magic) else (if c then Err (faults.Cut (length bytes)) else Err (faults.Magic 0))) >>= λ (start : ℕ). version_after newest start bytes)
      ≡ ((if b then Ok (after_magic (length magic)) else (if c then Err (faults.Cut (length bytes)) else Err (faults.Magic 0))) >>= λ (m : Read ℕ). version_after newest m.next bytes)
  head_is newest bytes true c = ap (λ (n : ℕ). version_after newest n bytes) (omega arith)
  head_is newest bytes false true = refl
  head_is newest bytes false false = refl

-- the same reading, written in another way
pub same_local : {A : Type 0} (f g : List ℕ → Result (Read A) ImageFault) (from seen : ℕ) → ((bytes : List ℕ) → f bytes ≡ g bytes) → IsLocal g from seen → IsLocal f from seen
same_local f g from seen same local = record {
  ok = λ bytes x le e. (let r = local.ok bytes x le (sym (same bytes) ∙ e) in record { past = r.past; within = r.within; stays = λ other b. same other ∙ r.stays other b });
  fault = λ bytes h le e. told h bytes (local.fault bytes h le (sym (same bytes) ∙ e));
}
  where
    firm : (h : ImageFault) (p : ℕ) (bytes : List ℕ) → IsFirm g from seen bytes h p → IsFirm f from seen bytes h p
    firm h p bytes t = record { ends = t.ends; after = t.after; past = t.past; near = t.near; seen_is = t.seen_is; within = t.within; stays = λ other b. same other ∙ t.stays other b }

    told : (h : ImageFault) (bytes : List ℕ) → IsTold g from seen bytes h → IsTold f from seen bytes h
    told (faults.Magic p) bytes t = firm (faults.Magic p) p bytes t
    told (faults.Version p) bytes t = firm (faults.Version p) p bytes t
    told (faults.Cut p) bytes t = t
    told (faults.Tag p) bytes t = firm (faults.Tag p) p bytes t
    told (faults.Number p) bytes t = firm (faults.Number p) p bytes t
    told (faults.Trailing p) bytes t = t
    told (faults.Nesting p) bytes t = firm (faults.Nesting p) p bytes t
    told faults.NoMemory bytes t = t

pub head_local : (magic : List ℕ) → 0 < length magic → length magic ≤ 4 → (newest : ℕ) → IsLocal (λ bytes. head_at magic newest bytes 0) 0 0
unfolding head_at
head_local magic some few newest =
    let short : IsMagic magic = record { some = some; few = few } in
    same_local (λ bytes. head_at magic newest bytes 0) (λ bytes. magic_read magic bytes >>= λ m. version_after magic short newest m.next bytes) 0 0
    (λ bytes. head_is magic short newest bytes (starts magic bytes) (begins_so magic bytes))
    (bind_local (magic_read magic) (λ m bytes. version_after magic short newest m.next bytes) 0 0 (magic_local magic short) (λ m bytes past is. version_at_local magic short newest m.next))
