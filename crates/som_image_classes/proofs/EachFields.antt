-- A field for each of a list is a field, and how a loop reads them.
use Rattle.std.proofs.Common.{◌≡◌, ℕ, suc, ◌+◌, ◌≤◌, ◌<◌, List, [], ◌∷◌, ◌++◌, length, drop, get_or, Result, Ok, Err, refl, sym, ap, subst, ◌∙◌, append_assoc, arith, drop-cons}
use Rattle.std.specs.List.{flat_map}
use Rattle.std.proofs.lemmas.List.{append-nil}
use Rattle.std.proofs.lemmas.List.Concat.{flat_map-cons}
use Rattle.som_model.specs.Bytes.{AreBytes}
use Rattle.som_model.specs.Steps.{◌>>=◌}
use Rattle.som_image_fields.specs.declared.fault.ImageFault.{ImageFault}
use Rattle.som_image_fields.specs.declared.fault.ImageFault.TheVariants as faults
use Rattle.som_image_fields.specs.declared.read.Read.{Read}
use Rattle.som_image_fields.specs.Fields.{Stands, Fails, done}
use Rattle.som_image_fields.proofs.Parts.{IsField, Stands-join, bind_ok, came, took, went}
use Rattle.som_image_fields.proofs.Loop.{with_front}
use Rattle.som_image_classes.specs.ReadClasses.{each_at}
use Rattle.som_image_classes.specs.SpelledClasses.{FitEach}

-- ---- a field for each

module _ {A B : Type 0} (one : A → List ℕ → ℕ → Result (Read B) ImageFault) (spell : B → List ℕ) (Fits : A → B → Type 0) (field : (x : A) → IsField (one x) spell (Fits x)) where
  abbrev reads : List ℕ → A → ℕ → Result (Read B) ImageFault
  reads bytes x place = one x bytes place

  each_takes : (xs : List A) (bytes : List ℕ) → AreBytes bytes → (place : ℕ) (r : Read (List B)) → place ≤ length bytes → each_at (reads bytes) xs place ≡ Ok r → Stands bytes place (flat_map spell r.value) r.next × FitEach Fits xs r.value
  unfolding each_at
  each_takes [] bytes all place r le e =
      came (flat_map spell) (FitEach Fits []) bytes place [] place r e (record { parts = refl; moves = omega arith; within = le }) tt
  each_takes (x ∷ xs) bytes all place r le e =
      let a = took (one x) spell (Fits x) (field x) bytes all place le (λ first. each_at (reads bytes) xs first.next >>= λ others. done (first.value ∷ others.value) others.next) r e in
      let b = bind_ok (each_at (reads bytes) xs a.0.next) (λ others. done (a.0.value ∷ others.value) others.next) r a.3 in
      let t = each_takes xs bytes all a.0.next b.0 a.1.within b.1 in
      let both = Stands-join bytes place (spell a.0.value) a.0.next (flat_map spell b.0.value) b.0.next a.1 t.0 in
      came (flat_map spell) (FitEach Fits (x ∷ xs)) bytes place (a.0.value ∷ b.0.value) b.0.next r b.2 (rw flat_map-cons both) (a.2, t.1)

  each_again : (xs : List A) (bytes : List ℕ) (place : ℕ) (vs : List B) (next : ℕ) → Stands bytes place (flat_map spell vs) next → FitEach Fits xs vs → each_at (reads bytes) xs place ≡ done vs next
  unfolding each_at
  each_again [] bytes place [] next h fits = ap (done []) (omega (arith, h.moves))
  each_again [] bytes place (v ∷ vs) next h fits = absurd fits
  each_again (x ∷ xs) bytes place [] next h fits = absurd fits
  each_again (x ∷ xs) bytes place (v ∷ vs) next h fits =
      let parts : Stands bytes place (spell v ++ flat_map spell vs) next = subst (λ (t : List ℕ). Stands bytes place t next) (flat_map-cons spell v vs) h in
      let first = went (one x) spell (Fits x) (field x) bytes place v (flat_map spell vs) next parts fits.0 in
      let others = each_again xs bytes (place + length (spell v)) vs next first.1 fits.1 in
      rw (first.0, others) refl

  pub each_field : (xs : List A) → IsField (λ bytes. each_at (reads bytes) xs) (flat_map spell) (FitEach Fits xs)
  each_field xs = record { takes = each_takes xs; again = each_again xs }

-- ---- reading them by a loop

-- after the fields of the first i of these, this front was read up to this place, and what is still read gives the whole
pub record ReadsEach {A B : Type 0} (one : A → ℕ → Result (Read B) ImageFault) (xs : List A) (start : ℕ) (front : List B) (i place : ℕ) : Type 0 where
  pub so_far : with_front front (each_at one (drop i xs) place) ≡ each_at one xs start

regroup : {B : Type 0} (front : List B) (n : B) (read : Result (Read (List B)) ImageFault) → with_front front (read >>= λ x. done (n ∷ x.value) x.next) ≡ with_front (front ++ n ∷ []) read
regroup front n (Ok x) = ap (λ ns. done ns x.next) (simp append_assoc)
regroup front n (Err fault) = refl

front_nil : {B : Type 0} (read : Result (Read (List B)) ImageFault) → with_front [] read ≡ read
front_nil (Ok x) = refl
front_nil (Err fault) = refl

pub starts : {A B : Type 0} (one : A → ℕ → Result (Read B) ImageFault) (xs : List A) (start : ℕ) → ReadsEach one xs start [] 0 start
starts one xs start = record { so_far = front_nil (each_at one xs start) }

pub goes_on : {A B : Type 0} (one : A → ℕ → Result (Read B) ImageFault) (xs : List A) (start : ℕ) (front : List B) (i place : ℕ) (d : A) (r : Read B) → i < length xs → one (get_or xs i d) place ≡ Ok r → ReadsEach one xs start front i place → ReadsEach one xs start (front ++ r.value ∷ []) (i + 1) r.next
unfolding each_at
goes_on one xs start front i place d r lt read so_far =
    let left : drop i xs ≡ get_or xs i d ∷ drop (suc i) xs = drop-cons xs i d lt in
    let next : suc i ≡ i + 1 = omega arith in
    let step : with_front front (each_at one (drop i xs) place) ≡ with_front (front ++ r.value ∷ []) (each_at one (drop (suc i) xs) r.next) = rw (left, read) (regroup front r.value (each_at one (drop (suc i) xs) r.next)) in
    record { so_far = ap (λ (k : ℕ). with_front (front ++ r.value ∷ []) (each_at one (drop k xs) r.next)) (sym next) ∙ sym step ∙ so_far.so_far }

-- a step that fails ends what follows
failed : {A B : Type 0} (fault : ImageFault) (read : Result A ImageFault) (f : A → Result B ImageFault) → Fails fault read → Fails fault (read >>= f)
failed faults.NoMemory read f h = tt
failed (faults.Magic o) read f h = rw h refl
failed (faults.Version o) read f h = rw h refl
failed (faults.Cut o) read f h = rw h refl
failed (faults.Tag o) read f h = rw h refl
failed (faults.Number o) read f h = rw h refl
failed (faults.Trailing o) read f h = rw h refl
failed (faults.Nesting o) read f h = rw h refl

pub ends : {A B : Type 0} (one : A → ℕ → Result (Read B) ImageFault) (xs : List A) (start : ℕ) (front : List B) (i place : ℕ) (d : A) (fault : ImageFault) → i < length xs → Fails fault (one (get_or xs i d) place) → ReadsEach one xs start front i place → Fails fault (each_at one xs start)
unfolding each_at
ends {A} {B} one xs start front i place d fault lt h so_far =
    let left : drop i xs ≡ get_or xs i d ∷ drop (suc i) xs = drop-cons xs i d lt in
    let part : Fails fault (with_front front (each_at one (get_or xs i d ∷ drop (suc i) xs) place)) = failed fault (each_at one (get_or xs i d ∷ drop (suc i) xs) place) (λ x. done (front ++ x.value) x.next) (failed fault (one (get_or xs i d) place) (λ first. each_at one (drop (suc i) xs) first.next >>= λ others. done (first.value ∷ others.value) others.next) h) in
    subst (λ (r : Result (Read (List B)) ImageFault). Fails fault r) (ap (λ l. with_front front (each_at one l place)) (sym left) ∙ so_far.so_far) part

pub is_done : {A B : Type 0} (one : A → ℕ → Result (Read B) ImageFault) (xs : List A) (start : ℕ) (front : List B) (i place : ℕ) → drop i xs ≡ [] → ReadsEach one xs start front i place → each_at one xs start ≡ done front place
unfolding each_at
is_done one xs start front i place none so_far =
    let step : with_front front (each_at one (drop i xs) place) ≡ done front place = rw none (ap (λ ns. done ns place) (append-nil front)) in
    sym so_far.so_far ∙ step
