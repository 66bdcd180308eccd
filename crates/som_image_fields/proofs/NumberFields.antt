-- Numbers and texts are fields.
use Rattle.std.proofs.Common.{◌≡◌, ℕ, ◌+◌, ◌^◌, ◌<◌, ◌≤◌, Bool, true, false, cond, ltb, leb, List, [], ◌∷◌, ◌++◌, length, get_or, take, drop, Ok, Err, refl, sym, ap, subst, ◌∙◌, arith, inl, inr}
use Rattle.std.specs.Int.{Width, w8, w16, w32, byte_len, from_be_bytes}
use Rattle.std.proofs.lemmas.Bool.{cases_lt, ltb-false, ltb-true, le-ltb, lt-ltb, leb-true, le-leb}
use Rattle.std.proofs.lemmas.List.{take_at, take-append-drop, length-take, length-take-le, length-drop, drop-drop, get_or-drop, get_or-take, get_or_past}
use Rattle.std.proofs.lemmas.Nat.{be_bytes_2, from_be_bytes-to_be_bytes_2, be_bytes_4, from_be_bytes-to_be_bytes_4}
use Rattle.som_model.specs.declared.limits.TheConstants.{MAX_VERSION}
use Rattle.som_model.specs.Bytes.{AreBytes}
use Rattle.som_model.specs.Steps.{◌>>=◌}
use Rattle.som_image_fields.specs.declared.fault.ImageFault.TheVariants as faults
use Rattle.som_image_fields.specs.declared.read.Read.{Read}
use Rattle.som_image_fields.specs.Fields.{Stands, done}
use Rattle.som_image_fields.specs.Spelling.{number, text, FitsText}
use Rattle.som_image_fields.specs.Reading.{number_at, text_at, below_at, version_at}
use Rattle.som_image_fields.proofs.Parts.{IsField, Stands-join, guard_no, guard_yes, came, took, went, same_read}

AreBytes-take-drop : (n m : ℕ) (bytes : List ℕ) → AreBytes bytes → AreBytes (take n (drop m bytes))
AreBytes-take-drop n m bytes h i =
    elim (cases_lt i n) [
      | inl lt ↦ rw (get_or-take n (drop m bytes) i 0 lt, get_or-drop) (h (m + i))
      | inr le ↦ rw (get_or_past (take n (drop m bytes)) i 0 (omega (arith, length-take n (drop m bytes)))) (omega arith)
    ]

-- ---- numbers

-- the numbers below a limit are those that have so many bytes
pub record IsWide (w : Width) (limit : ℕ) : Type 0 where
  pub len : (n : ℕ) → length (number w n) ≡ byte_len w
  pub back : (bytes : List ℕ) → length bytes ≡ byte_len w → AreBytes bytes → number w (from_be_bytes w bytes) ≡ bytes
  pub again : (n : ℕ) → n < limit → from_be_bytes w (number w n) ≡ n
  pub below : (bytes : List ℕ) → AreBytes bytes → from_be_bytes w bytes < limit

pub number-w8 : (n : ℕ) → n < 256 → number w8 n ≡ n ∷ []
number-w8 n lt = ap (λ (m : ℕ). m ∷ []) (grind arith)

back_w8 : (bytes : List ℕ) → length bytes ≡ 1 → AreBytes bytes → number w8 (from_be_bytes w8 bytes) ≡ bytes
back_w8 [] len fits = absurd (omega arith)
back_w8 (b ∷ []) len fits = number-w8 b (fits 0)
back_w8 (b ∷ c ∷ bs) len fits = absurd (omega arith)

wide8 : IsWide w8 (2 ^ 8)
wide8 = record {
  len = λ n. refl;
  back = back_w8;
  again = λ n lt. ap (λ (t : List ℕ). get_or t 0 0) (number-w8 n lt);
  below = λ bytes fits. fits 0;
}

wide16 : IsWide w16 (2 ^ 16)
wide16 = record {
  len = λ n. refl;
  back = λ bytes len fits. be_bytes_2 bytes _ len fits refl;
  again = λ n lt. from_be_bytes-to_be_bytes_2 n lt;
  below = λ bytes fits. omega (arith, fits 0, fits 1);
}

wide32 : IsWide w32 (2 ^ 32)
wide32 = record {
  len = λ n. refl;
  back = λ bytes len fits. be_bytes_4 bytes _ len fits refl;
  again = λ n lt. from_be_bytes-to_be_bytes_4 n lt;
  below = λ bytes fits. omega (arith, fits 0, fits 1, fits 2, fits 3);
}

number_takes : (w : Width) (limit : ℕ) (wide : IsWide w limit) (bytes : List ℕ) (all : AreBytes bytes) (place : ℕ) (r : Read ℕ) → place ≤ length bytes → number_at w bytes place ≡ Ok r → Stands bytes place (number w r.value) r.next × (r.value < limit)
number_takes w limit wide bytes all place r le e =
    let value : ℕ = from_be_bytes w (take (byte_len w) (drop place bytes)) in
    let g = guard_no (ltb (length bytes) (place + byte_len w)) (faults.Cut (length bytes)) (done value (place + byte_len w)) r e in
    let long : place + byte_len w ≤ length bytes = ltb-false _ _ g.0 in
    let len : length (take (byte_len w) (drop place bytes)) ≡ byte_len w = length-take-le (byte_len w) (drop place bytes) (omega (arith, length-drop place bytes)) in
    let front : number w value ≡ take (byte_len w) (drop place bytes) = wide.back _ len (AreBytes-take-drop (byte_len w) place bytes all) in
    let stands : Stands bytes place (number w value) (place + byte_len w) = record {
      parts = sym (take-append-drop (byte_len w) (drop place bytes)) ∙ ap (λ (t : List ℕ). t ++ drop (byte_len w) (drop place bytes)) (sym front) ∙ ap (λ (t : List ℕ). number w value ++ t) (drop-drop (byte_len w) place bytes);
      moves = ap (λ n. place + n) (wide.len value);
      within = long;
    } in
    came (number w) (λ n. n < limit) bytes place value (place + byte_len w) r g.1 stands (wide.below _ (AreBytes-take-drop (byte_len w) place bytes all))

number_again : (w : Width) (limit : ℕ) (wide : IsWide w limit) (bytes : List ℕ) (place n next : ℕ) → Stands bytes place (number w n) next → n < limit → number_at w bytes place ≡ done n next
number_again w limit wide bytes place n next h lt =
    let len = wide.len n in
    let moved : place + byte_len w ≡ next = omega (arith, h.moves, len) in
    let long : ltb (length bytes) (place + byte_len w) ≡ false = le-ltb _ _ (omega (arith, h.within)) in
    let value : take (byte_len w) (drop place bytes) ≡ number w n = ap (take (byte_len w)) h.parts ∙ take_at (number w n) (drop next bytes) (byte_len w) len in
    rw (long, value, wide.again n lt, moved) refl

number_field : (w : Width) (limit : ℕ) (wide : IsWide w limit) → IsField (number_at w) (number w) (λ n. n < limit)
number_field w limit wide = record { takes = number_takes w limit wide; again = number_again w limit wide }

pub byte_field : IsField (number_at w8) (number w8) (λ n. n < 2 ^ 8)
byte_field = number_field w8 (2 ^ 8) wide8

pub short_field : IsField (number_at w16) (number w16) (λ n. n < 2 ^ 16)
short_field = number_field w16 (2 ^ 16) wide16

pub long_field : IsField (number_at w32) (number w32) (λ n. n < 2 ^ 32)
long_field = number_field w32 (2 ^ 32) wide32

-- a number that passes a test
tested_takes : (w : Width) (limit : ℕ) → IsField (number_at w) (number w) (λ n. n < limit) → (bytes : List ℕ) → AreBytes bytes → (place : ℕ) (r : Read ℕ) (test : ℕ → Bool) → place ≤ length bytes → (number_at w bytes place >>= λ n. cond (test n.value) (Ok n) (Err (faults.Number place))) ≡ Ok r → Stands bytes place (number w r.value) r.next × (r.value < limit) × (test r.value ≡ true)
tested_takes w limit field bytes all place r test le e =
    let n = took (number_at w) (number w) (λ n. n < limit) field bytes all place le (λ n. cond (test n.value) (Ok n) (Err (faults.Number place))) r e in
    let g = guard_yes (test n.0.value) (faults.Number place) (Ok n.0) r n.3 in
    subst (λ (x : Read ℕ). Stands bytes place (number w x.value) x.next × (x.value < limit) × (test x.value ≡ true)) (same_read n.0 r g.1) (n.1, n.2, g.0)

below_takes : (limit : ℕ) (bytes : List ℕ) → AreBytes bytes → (place : ℕ) (r : Read ℕ) → place ≤ length bytes → below_at limit bytes place ≡ Ok r → Stands bytes place (number w16 r.value) r.next × (r.value < limit)
unfolding below_at
below_takes limit bytes all place r le e =
    let t = tested_takes w16 (2 ^ 16) short_field bytes all place r (λ n. ltb n limit) le e in
    (t.0, ltb-true _ _ t.2)

below_again : (limit : ℕ) → limit ≤ 2 ^ 16 → (bytes : List ℕ) (place n next : ℕ) → Stands bytes place (number w16 n) next → n < limit → below_at limit bytes place ≡ done n next
unfolding below_at
below_again limit small bytes place n next h lt =
    let read = short_field.again bytes place n next h (omega arith) in
    rw (read, lt-ltb n limit lt) refl

pub below_field : (limit : ℕ) → limit ≤ 2 ^ 16 → IsField (below_at limit) (number w16) (λ n. n < limit)
below_field limit small = record { takes = below_takes limit; again = below_again limit small }

version_takes : (bytes : List ℕ) → AreBytes bytes → (place : ℕ) (r : Read ℕ) → place ≤ length bytes → version_at bytes place ≡ Ok r → Stands bytes place (number w32 r.value) r.next × (r.value ≤ MAX_VERSION)
unfolding version_at
version_takes bytes all place r le e =
    let t = tested_takes w32 (2 ^ 32) long_field bytes all place r (λ n. leb n MAX_VERSION) le e in
    (t.0, leb-true _ _ t.2)

version_again : (bytes : List ℕ) (place n next : ℕ) → Stands bytes place (number w32 n) next → n ≤ MAX_VERSION → version_at bytes place ≡ done n next
unfolding version_at
version_again bytes place n next h le =
    let read = long_field.again bytes place n next h (omega arith) in
    rw (read, le-leb n MAX_VERSION le) refl

pub version_field : IsField version_at (number w32) (λ n. n ≤ MAX_VERSION)
version_field = record { takes = version_takes; again = version_again }

-- ---- texts

text_takes : (bytes : List ℕ) (all : AreBytes bytes) (place : ℕ) (r : Read (List ℕ)) → place ≤ length bytes → text_at bytes place ≡ Ok r → Stands bytes place (text r.value) r.next × FitsText r.value
unfolding text_at
text_takes bytes all place r le e =
    let n = took (number_at w16) (number w16) (λ n. n < 2 ^ 16) short_field bytes all place le (λ n. cond (ltb (length bytes) (n.next + n.value)) (Err (faults.Cut (length bytes))) (done (take n.value (drop n.next bytes)) (n.next + n.value))) r e in
    let len = n.0 in
    let value : List ℕ = take len.value (drop len.next bytes) in
    let g = guard_no (ltb (length bytes) (len.next + len.value)) (faults.Cut (length bytes)) (done value (len.next + len.value)) r n.3 in
    let long : len.next + len.value ≤ length bytes = ltb-false _ _ g.0 in
    let same : length value ≡ len.value = length-take-le len.value (drop len.next bytes) (omega (arith, length-drop len.next bytes)) in
    let second : Stands bytes len.next value (len.next + len.value) = record {
      parts = sym (take-append-drop len.value (drop len.next bytes)) ∙ ap (λ (x : List ℕ). value ++ x) (drop-drop len.value len.next bytes);
      moves = ap (λ k. len.next + k) same;
      within = long;
    } in
    let both = Stands-join bytes place (number w16 len.value) len.next value (len.next + len.value) n.1 second in
    let whole : Stands bytes place (text value) (len.next + len.value) = subst (λ (k : ℕ). Stands bytes place (number w16 k ++ value) (len.next + len.value)) (sym same) both in
    came text FitsText bytes place value (len.next + len.value) r g.1 whole (omega (arith, same, n.2))

text_again : (bytes : List ℕ) (place : ℕ) (t : List ℕ) (next : ℕ) → Stands bytes place (text t) next → FitsText t → text_at bytes place ≡ done t next
unfolding text_at
text_again bytes place t next h fits =
    let n = went (number_at w16) (number w16) (λ n. n < 2 ^ 16) short_field bytes place (length t) t next h (omega arith) in
    let start : ℕ = place + length (number w16 (length t)) in
    let long : ltb (length bytes) (start + length t) ≡ false = le-ltb _ _ (omega (arith, n.1.moves, n.1.within)) in
    let value : take (length t) (drop start bytes) ≡ t = ap (take (length t)) n.1.parts ∙ take_at t (drop next bytes) (length t) refl in
    rw (n.0, long, value, n.1.moves) refl

pub text_field : IsField text_at text FitsText
text_field = record { takes = text_takes; again = text_again }
