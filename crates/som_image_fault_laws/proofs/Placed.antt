-- The head of an image that begins at any place, and a field whose count is asked for, are local.
use Rattle.std.proofs.Common.{◌≡◌, ℕ, ◌+◌, ◌<◌, ◌≤◌, ◌==◌, ◌&&◌, Bool, true, false, if◌then◌else◌, List, length, drop, Option, Some, None, Result, Ok, Err, refl, sym, ap, ◌∙◌, subst, arith}
use Rattle.std.specs.Prelude.{nat_eq, nat_le}
use Rattle.std.specs.Cmp.Lexicographic.{pointwise}
use Rattle.std.specs.Int.{Width, w8, byte_len}
use Rattle.std.proofs.lemmas.List.{drop-take, length-drop}
use Rattle.som_model.specs.Steps.{◌>>=◌}
use Rattle.som_image_fields.specs.declared.fault.ImageFault.{ImageFault}
use Rattle.som_image_fields.specs.declared.fault.ImageFault.TheVariants as faults
use Rattle.som_image_fields.specs.declared.read.Read.{Read}
use Rattle.som_image_fields.specs.Reading.{number_at}
use Rattle.som_image_classes.specs.ReadClasses.{head_at}
use Rattle.som_cliimage.specs.Forms.{asked_at}
use Rattle.som_image_fault_laws.proofs.Local.{Begins, IsFirm, IsLocal, IsRead, IsTold, after_number, bind_local, done_local, number_local, version_local}
use Rattle.som_image_fault_laws.proofs.Fields.{after_byte, pick}
use Rattle.som_image_fault_laws.proofs.Classes.{IsMagic, after_magic, begins_so, long_enough, magic_read, magic_told, same_local, starts, starts_is}

-- ---- the head at a place

-- what bytes that begin so have behind the place begins so
behind : (p n : ℕ) (bytes other : List ℕ) → Begins (p + n) bytes other → Begins n (drop p bytes) (drop p other)
behind p n bytes other b = record {
  long = omega (arith, b.long, length-drop p other);
  same = sym (drop-take p n other) ∙ ap (drop p) b.same ∙ drop-take p n bytes;
}

-- those bytes at a place, as a field
abbrev magic_there : List ℕ → ℕ → List ℕ → Result (Read ℕ) ImageFault
magic_there magic place bytes = if starts magic (drop place bytes) then Ok (after_magic (place + length magic)) else (if begins_so magic (drop place bytes) then Err (faults.Cut (length bytes)) else Err (faults.Magic place))

there_by : (magic : List ℕ) (place len end : ℕ) (b c : Bool) → (if b then Ok (after_magic len) else (if c then Err (faults.Cut end) else Err (faults.Magic 0))) ≡ Err (faults.Magic 0)
    → (other_end : ℕ) → (if b then Ok (after_magic (place + len)) else (if c then Err (faults.Cut other_end) else Err (faults.Magic place))) ≡ Err (faults.Magic place)
there_by magic place len end true c e other_end = absurd (let z = e in cc)
there_by magic place len end false true e other_end = absurd (let z = e in cc)
there_by magic place len end false false e other_end = refl

module _ (magic : List ℕ) (short : IsMagic magic) (from place : ℕ) (le : from ≤ place) where
  abbrev there : List ℕ → Result (Read ℕ) ImageFault
  there = magic_there magic place

  there_told : (bytes : List ℕ) → place ≤ length bytes → IsFirm (magic_read magic) 0 0 (drop place bytes) (faults.Magic 0) 0 → IsFirm there from place bytes (faults.Magic place) place
  there_told bytes seen t = record {
    ends = place + t.ends;
    after = le;
    past = omega (arith, t.past);
    near = omega (arith, t.near);
    seen_is = omega arith;
    within = omega (arith, t.within, length-drop place bytes, seen);
    stays = λ other b. there_by magic place (length magic) (length (drop place other)) (starts magic (drop place other)) (begins_so magic (drop place other)) (t.stays (drop place other) (behind place t.ends bytes other b)) (length other);
  }

  there_ok : (bytes : List ℕ) (x : Read ℕ) (b c : Bool) → place ≤ length bytes → starts magic (drop place bytes) ≡ b → (if b then Ok (after_magic (place + length magic)) else (if c then Err (faults.Cut (length bytes)) else Err (faults.Magic place))) ≡ Ok x → IsRead there place bytes x.next x
  there_ok bytes x true c seen e h =
      let same : after_magic (place + length magic) ≡ x = (let z = h in cc) in
      let long = long_enough magic short (drop place bytes) (starts_is magic short (drop place bytes) e) in
      subst (λ (z : Read ℕ). IsRead there place bytes z.next z) same
      (record {
        past = omega arith;
        within = omega (arith, long, length-drop place bytes, seen);
        stays = λ other b. (let is : starts magic (drop place other) ≡ true = ap (λ (t : List ℕ). pointwise nat_eq magic t) (behind place (length magic) bytes other b).same ∙ e in rw is refl);
      })
  there_ok bytes x false true seen e h = absurd (let z = h in cc)
  there_ok bytes x false false seen e h = absurd (let z = h in cc)

  there_fault : (bytes : List ℕ) (g : ImageFault) (b c : Bool) → place ≤ length bytes → starts magic (drop place bytes) ≡ b → begins_so magic (drop place bytes) ≡ c → (if b then Ok (after_magic (place + length magic)) else (if c then Err (faults.Cut (length bytes)) else Err (faults.Magic place))) ≡ Err g → IsTold there from place bytes g
  there_fault bytes g true c seen e f h = absurd (let z = h in cc)
  there_fault bytes g false true seen e f h = let same : faults.Cut (length bytes) ≡ g = (let z = h in cc) in subst (IsTold there from place bytes) same refl
  there_fault bytes g false false seen e f h =
      let same : faults.Magic place ≡ g = (let z = h in cc) in
      subst (IsTold there from place bytes) same (there_told bytes seen (magic_told magic short (drop place bytes) e f _ refl))

  there_local : IsLocal there from place
  there_local = record {
    ok = λ bytes x seen h. there_ok bytes x (starts magic (drop place bytes)) (begins_so magic (drop place bytes)) seen refl h;
    fault = λ bytes g seen h. there_fault bytes g (starts magic (drop place bytes)) (begins_so magic (drop place bytes)) seen refl refl h;
  }

-- the version behind them
abbrev version_then : ℕ → ℕ → List ℕ → Result (Read ℕ) ImageFault
version_then newest place bytes = number_at w8 bytes place >>= λ version. if nat_le 1 version.value && nat_le version.value newest then Ok version else Err (faults.Version place)

version_then_local : (newest from place : ℕ) → from ≤ place → IsLocal (version_then newest place) from place
version_then_local newest from place le =
    after_byte (λ version bytes. if nat_le 1 version.value && nat_le version.value newest then Ok version else Err (faults.Version place)) from place le
    (λ version is. pick (nat_le 1 version.value && nat_le version.value newest) (done_local version from) (version_local from version.next place le (omega (arith, is)) (omega (arith, is))))

head_by : (newest place len : ℕ) (bytes : List ℕ) (b c : Bool) → ((if b then Ok (place + len) else (if c then Err (faults.Cut (length bytes)) else Err (faults.Magic place))) >>= λ (start : ℕ). version_then newest start bytes)
    ≡ ((if b then Ok (after_magic (place + len)) else (if c then Err (faults.Cut (length bytes)) else Err (faults.Magic place))) >>= λ (m : Read ℕ). version_then newest m.next bytes)
head_by newest place len bytes true c = refl
head_by newest place len bytes false true = refl
head_by newest place len bytes false false = refl

pub head_there : (magic : List ℕ) → 0 < length magic → length magic ≤ 4 → (newest from place : ℕ) → from ≤ place → IsLocal (λ bytes. head_at magic newest bytes place) from place
unfolding head_at
head_there magic some few newest from place le =
    let short : IsMagic magic = record { some = some; few = few } in
    same_local (λ bytes. head_at magic newest bytes place) (λ bytes. magic_there magic place bytes >>= λ m. version_then newest m.next bytes) from place
    (λ bytes. head_by newest place (length magic) bytes (starts magic (drop place bytes)) (begins_so magic (drop place bytes)))
    (bind_local (magic_there magic place) (λ m bytes. version_then newest m.next bytes) from place (there_local magic short from place le) (λ m bytes past is. version_then_local newest from m.next (omega (arith, le, past))))

-- ---- counts that are asked for

-- a number that is tested, and then read again
twice : {B : Type 0} (r : Result (Read ℕ) ImageFault) (test : Read ℕ → Bool) (f : ImageFault) (g : Read ℕ → Result (Read B) ImageFault)
    → ((r >>= λ c. if test c then Ok tt else Err f) >>= λ (u : Unit {0}). r >>= g) ≡ (r >>= λ c. if test c then g c else Err f)
twice (Err e) test f g = refl
twice {B = B} (Ok c) test f g = by (test c)
  where
    by : (b : Bool) → ((if b then Ok tt else Err f) >>= λ (u : Unit {0}). g c) ≡ (if b then g c else Err f)
    by true = refl
    by false = refl

pub asked_local : {B : Type 0} (w : Width) → 0 < byte_len w → byte_len w ≤ 4 → (asked : Option ℕ) (next : Read ℕ → List ℕ → Result (Read B) ImageFault) (from place : ℕ) → from ≤ place
    → ((x : Read ℕ) → x.next ≡ place + byte_len w → IsLocal (next x) from x.next) → IsLocal (λ bytes. asked_at w asked bytes place >>= λ u. number_at w bytes place >>= λ x. next x bytes) from place
asked_local w some few None next from place le rest = after_number w next from place le rest
asked_local w some few (Some asked) next from place le rest =
    same_local (λ bytes. asked_at w (Some asked) bytes place >>= λ u. number_at w bytes place >>= λ x. next x bytes) (λ bytes. number_at w bytes place >>= λ x. if x.value == asked then next x bytes else Err (faults.Number place)) from place
    (λ bytes. twice (number_at w bytes place) (λ c. c.value == asked) (faults.Number place) (λ x. next x bytes))
    (after_number w (λ x bytes. if x.value == asked then next x bytes else Err (faults.Number place)) from place le
    (λ x is. pick (x.value == asked) (rest x is) (number_local from x.next place le (omega (arith, is, some)) (omega (arith, is, few)))))
