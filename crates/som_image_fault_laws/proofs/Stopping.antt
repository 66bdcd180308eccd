-- Where bytes stop, of what is read from left to right.
use Rattle.std.proofs.Common.{◌≡◌, ℕ, ◌+◌, ◌<◌, ◌≤◌, Bool, true, false, if◌then◌else◌, List, ◌++◌, length, take, Option, Some, None, Result, Ok, Err, refl, sym, ap, ◌∙◌, subst, arith, true≢false}
use Rattle.std.specs.Prelude.{nat_lt}
use Rattle.std.proofs.lemmas.Bool.{le-ltb, ltb-true}
use Rattle.std.proofs.lemmas.List.{length-append, length-take, length-take-le, take-take, take_at}
use Rattle.som_model.specs.Steps.{◌>>=◌}
use Rattle.som_image_fields.specs.declared.fault.ImageFault.{ImageFault}
use Rattle.som_image_fields.specs.declared.fault.ImageFault.TheVariants as faults
use Rattle.som_image_fields.specs.declared.read.Read.{Read}
use Rattle.som_image_classes.specs.ReadClasses.{at_end}
use Rattle.som_image_fault_laws.specs.Stopping.{StopsAt, field_of}
use Rattle.som_image_fault_laws.proofs.Local.{Begins, IsFirm, IsLocal, IsRead, IsTold}

-- two equal results hold one fault
abbrev refused : (X : Type 0) → ImageFault → Result X ImageFault
refused X f = Err f

one_fault : {X : Type 0} {f g : ImageFault} → refused X f ≡ refused X g → f ≡ g
one_fault e = let z = e in cc

abbrev answered : (X : Type 0) → X → Result X ImageFault
answered X x = Ok x

not_both : {X : Type 0} {x : X} {f : ImageFault} → answered X x ≡ refused X f → ⊥
not_both e = let z = e in cc

one_place : {p q : ℕ} → Some p ≡ Some q → p ≡ q
one_place e = let z = e in cc

no_place : {p : ℕ} → Some p ≡ None → ⊥
no_place e = let z = e in cc

-- bytes begin as their front does
front_begins : (n m : ℕ) (bytes : List ℕ) → m ≤ length (take n bytes) → m ≤ n → Begins m (take n bytes) bytes
front_begins n m bytes le under = record { long = omega (arith, le, length-take n bytes); same = sym (take-take m n bytes under) }

-- and what goes on from the front begins so
onwards : (n : ℕ) (bytes more : List ℕ) → n ≤ length bytes → Begins n bytes (take n bytes ++ more)
onwards n bytes more le =
    let long = length-take-le n bytes le in
    record { long = omega (arith, length-append (take n bytes) more, long); same = take_at (take n bytes) more n long }

module _ {A B : Type 0} (read : List ℕ → Result (Read A) ImageFault) (local : IsLocal read 0 0) (name : A → B) where
  -- what is read, where nothing follows, with its names
  abbrev pub told : List ℕ → Result B ImageFault
  told bytes = (read bytes >>= at_end bytes) >>= λ w. Ok (name w)

  told_fault : (bytes : List ℕ) (f : ImageFault) → read bytes ≡ Err f → told bytes ≡ Err f
  told_fault bytes f e = ap (λ (z : Result (Read A) ImageFault). (z >>= at_end bytes) >>= λ w. Ok (name w)) e

  -- of what was told, what was read
  data WasRead (bytes : List ℕ) (f : ImageFault) : Type 0 where
    read_fault : read bytes ≡ Err f → WasRead bytes f
    read_more : (x : Read A) → read bytes ≡ Ok x → f ≡ faults.Trailing x.next → x.next < length bytes → WasRead bytes f

  was_read : (bytes : List ℕ) (f : ImageFault) → told bytes ≡ Err f → WasRead bytes f
  was_read bytes f e = by (read bytes) refl e
    where
      ended : (x : Read A) (b : Bool) → read bytes ≡ Ok x → nat_lt x.next (length bytes) ≡ b → ((if b then Err (faults.Trailing x.next) else Ok x.value) >>= λ w. Ok (name w)) ≡ Err f → WasRead bytes f
      ended x true is lt h = let same : faults.Trailing x.next ≡ f = (let z = h in cc) in read_more x is (sym same) (ltb-true x.next (length bytes) lt)
      ended x false is lt h = absurd (let z = h in cc)

      by : (r : Result (Read A) ImageFault) → read bytes ≡ r → ((r >>= at_end bytes) >>= λ w. Ok (name w)) ≡ Err f → WasRead bytes f
      by (Ok x) is h = ended x (nat_lt x.next (length bytes)) is refl h
      by (Err g) is h = let same : g ≡ f = (let z = h in cc) in read_fault (is ∙ ap Err same)

  -- ---- before the field

  other_fault : (n p : ℕ) (bytes : List ℕ) (f g : ImageFault) (q : ℕ) → field_of f ≡ Some p → field_of g ≡ Some q → n ≤ p → read bytes ≡ Err f → IsFirm read 0 0 (take n bytes) g q → ⊥
  other_fault n p bytes f g q at other le e t =
      let short = length-take n bytes in
      let within = t.within in
      let under : t.ends ≤ n = omega (arith, within, short) in
      let same : refused (Read A) g ≡ refused (Read A) f = sym (t.stays bytes (front_begins n t.ends bytes t.within under)) ∙ e in
      let places : q ≡ p = one_place (sym other ∙ ap field_of (one_fault same) ∙ at) in
      let past = t.past in
      omega (arith, past, under, le, places)

  cut_front : (n p : ℕ) (bytes : List ℕ) (f : ImageFault) → field_of f ≡ Some p → n ≤ p → n ≤ length bytes → read bytes ≡ Err f → (r : Result (Read A) ImageFault) → read (take n bytes) ≡ r → read (take n bytes) ≡ Err (faults.Cut n)
  cut_front n p bytes f at le long e (Ok x) is =
      let a = local.ok (take n bytes) x (omega arith) is in
      let short = length-take-le n bytes long in
      let within = a.within in
      let under : x.next ≤ n = omega (arith, within, short) in
      absurd (not_both (sym (a.stays bytes (front_begins n x.next bytes a.within under)) ∙ e))
  cut_front n p bytes f at le long e (Err (faults.Cut q)) is =
      let t : q ≡ length (take n bytes) = local.fault (take n bytes) (faults.Cut q) (omega arith) is in is ∙ ap (λ (z : ℕ). refused (Read A) (faults.Cut z)) (t ∙ length-take-le n bytes long)
  cut_front n p bytes f at le long e (Err (faults.Magic q)) is = absurd (other_fault n p bytes f (faults.Magic q) q at refl le e (local.fault (take n bytes) (faults.Magic q) (omega arith) is))
  cut_front n p bytes f at le long e (Err (faults.Version q)) is = absurd (other_fault n p bytes f (faults.Version q) q at refl le e (local.fault (take n bytes) (faults.Version q) (omega arith) is))
  cut_front n p bytes f at le long e (Err (faults.Tag q)) is = absurd (other_fault n p bytes f (faults.Tag q) q at refl le e (local.fault (take n bytes) (faults.Tag q) (omega arith) is))
  cut_front n p bytes f at le long e (Err (faults.Number q)) is = absurd (other_fault n p bytes f (faults.Number q) q at refl le e (local.fault (take n bytes) (faults.Number q) (omega arith) is))
  cut_front n p bytes f at le long e (Err (faults.Nesting q)) is = absurd (other_fault n p bytes f (faults.Nesting q) q at refl le e (local.fault (take n bytes) (faults.Nesting q) (omega arith) is))
  cut_front n p bytes f at le long e (Err (faults.Trailing q)) is = absurd (local.fault (take n bytes) (faults.Trailing q) (omega arith) is)
  cut_front n p bytes f at le long e (Err faults.NoMemory) is = absurd (local.fault (take n bytes) faults.NoMemory (omega arith) is)

  -- ---- the field

  module _ (Spells : B → List ℕ → Type 0) (again : (bytes : List ℕ) (x : B) → Spells x bytes → told bytes ≡ Ok x) where
    stops_firm : (bytes : List ℕ) (f : ImageFault) (p : ℕ) → field_of f ≡ Some p → read bytes ≡ Err f → IsFirm read 0 0 bytes f p → StopsAt told Spells f bytes p
    stops_firm bytes f p at e t = record {
      ends = t.ends;
      past = t.past;
      near = t.near;
      within = t.within;
      stays = λ more. told_fault (take t.ends bytes ++ more) f (t.stays (take t.ends bytes ++ more) (onwards t.ends bytes more t.within));
      dead = λ x more s. not_both (sym (again (take t.ends bytes ++ more) x s) ∙ told_fault (take t.ends bytes ++ more) f (t.stays (take t.ends bytes ++ more) (onwards t.ends bytes more t.within)));
      before = λ n le. told_fault (take n bytes) (faults.Cut n) (cut_front n p bytes f at le (let a = t.past in let b = t.within in omega (arith, le, a, b)) e (read (take n bytes)) refl);
    }

    stops_by : (bytes : List ℕ) (f : ImageFault) (p : ℕ) → field_of f ≡ Some p → read bytes ≡ Err f → IsTold read 0 0 bytes f → StopsAt told Spells f bytes p
    stops_by bytes (faults.Magic q) p at e t = subst (StopsAt told Spells (faults.Magic q) bytes) (one_place at) (stops_firm bytes (faults.Magic q) q refl e t)
    stops_by bytes (faults.Version q) p at e t = subst (StopsAt told Spells (faults.Version q) bytes) (one_place at) (stops_firm bytes (faults.Version q) q refl e t)
    stops_by bytes (faults.Tag q) p at e t = subst (StopsAt told Spells (faults.Tag q) bytes) (one_place at) (stops_firm bytes (faults.Tag q) q refl e t)
    stops_by bytes (faults.Number q) p at e t = subst (StopsAt told Spells (faults.Number q) bytes) (one_place at) (stops_firm bytes (faults.Number q) q refl e t)
    stops_by bytes (faults.Nesting q) p at e t = subst (StopsAt told Spells (faults.Nesting q) bytes) (one_place at) (stops_firm bytes (faults.Nesting q) q refl e t)
    stops_by bytes (faults.Cut q) p at e t = absurd (let z = at in cc)
    stops_by bytes (faults.Trailing q) p at e t = absurd t
    stops_by bytes faults.NoMemory p at e t = absurd t

    pub stops : (bytes : List ℕ) (f : ImageFault) (p : ℕ) → told bytes ≡ Err f → field_of f ≡ Some p → StopsAt told Spells f bytes p
    stops bytes f p e at = by (was_read bytes f e)
      where
        by : WasRead bytes f → StopsAt told Spells f bytes p
        by (read_fault h) = stops_by bytes f p at h (local.fault bytes f (omega arith) h)
        by (read_more x h is lt) = absurd (no_place (sym at ∙ ap field_of is))

  -- ---- bytes that end, or go on

  pub cut_there : (bytes : List ℕ) (p : ℕ) → told bytes ≡ Err (faults.Cut p) → p ≡ length bytes
  cut_there bytes p e = by (was_read bytes (faults.Cut p) e)
    where
      by : WasRead bytes (faults.Cut p) → p ≡ length bytes
      by (read_fault h) = local.fault bytes (faults.Cut p) (omega arith) h
      by (read_more x h is lt) = absurd (let z = is in cc)

  pub goes_on : (bytes : List ℕ) (p : ℕ) → told bytes ≡ Err (faults.Trailing p) → (p < length bytes) × (x : B) × (told (take p bytes) ≡ Ok x)
  goes_on bytes p e = by (was_read bytes (faults.Trailing p) e)
    where
      whole : (x : Read A) → read (take x.next bytes) ≡ Ok x → x.next < length bytes → told (take x.next bytes) ≡ Ok (name x.value)
      whole x h lt =
          let long = length-take-le x.next bytes (omega (arith, lt)) in
          let no : nat_lt x.next (length (take x.next bytes)) ≡ false = le-ltb x.next (length (take x.next bytes)) (omega (arith, long)) in
          ap (λ (z : Result (Read A) ImageFault). (z >>= at_end (take x.next bytes)) >>= λ w. Ok (name w)) h ∙ rw no refl

      by : WasRead bytes (faults.Trailing p) → (p < length bytes) × (x : B) × (told (take p bytes) ≡ Ok x)
      by (read_fault h) = absurd (local.fault bytes (faults.Trailing p) (omega arith) h)
      by (read_more x h is lt) =
          let a = local.ok bytes x (omega arith) h in
          let here : x.next ≡ p = (let z = is in cc) in
          let long = length-take-le x.next bytes a.within in
          let again = a.stays (take x.next bytes) (record { long = omega (arith, long); same = take-take x.next x.next bytes (omega arith) }) in
          subst (λ (z : ℕ). (z < length bytes) × (y : B) × (told (take z bytes) ≡ Ok y)) here (lt, name x.value, whole x again lt)
