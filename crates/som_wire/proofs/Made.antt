-- Fields that stand one after the other, and the value that is made of them; and such fields after a tag.
use Rattle.std.proofs.Common.{◌≡◌, ℕ, ◌+◌, ◌≤◌, ◌<◌, ◌^◌, Bool, true, false, cond, eqb, List, [], ◌∷◌, ◌++◌, length, Result, Ok, refl, sym, ap, subst, ◌∙◌, append_assoc, arith}
use Rattle.std.specs.Int.{w8}
use Rattle.std.proofs.lemmas.Bool.{eqb-true}
use Rattle.som_model.specs.Bytes.{AreBytes}
use Rattle.som_model.specs.Steps.{◌>>=◌}
use Rattle.som_image_fields.specs.declared.fault.ImageFault.{ImageFault}
use Rattle.som_image_fields.specs.declared.read.Read.{Read}
use Rattle.som_image_fields.specs.Fields.{Stands, done}
use Rattle.som_image_fields.specs.Spelling.{number}
use Rattle.som_image_fields.specs.Reading.{number_at}
use Rattle.som_image_fields.proofs.Parts.{IsField, Stands-join, came, took, went}
use Rattle.som_image_fields.proofs.NumberFields.{byte_field, number-w8}
use Rattle.som_wire.specs.Making.{Reads, of_one, of_two, of_three, of_four}

-- what is read are the parts of a value that fit, and where such parts are spelled their value is read
pub record IsMade {P T : Type 0} (one : Reads T) (make : P → T) (spell : P → List ℕ) (Fits : P → Type 0) : Type 0 where
  pub takes : (bytes : List ℕ) → AreBytes bytes → (place : ℕ) (r : Read T) → place ≤ length bytes → one bytes place ≡ Ok r → (p : P) × (next : ℕ) × (done (make p) next ≡ Ok r) × Stands bytes place (spell p) next × Fits p
  pub again : (bytes : List ℕ) (place : ℕ) (p : P) (next : ℕ) → Stands bytes place (spell p) next → Fits p → one bytes place ≡ done (make p) next

pub made_none : {T : Type 0} (v : T) → IsMade {P = Unit {0}} (λ bytes place. done v place) (λ p. v) (λ p. []) (λ p. Unit {0})
made_none v = record {
  takes = λ bytes all place r le e. (tt, place, e, record { parts = refl; moves = omega arith; within = le }, tt);
  again = λ bytes place p next h fits. ap (λ (n : ℕ). done v n) (omega (arith, h.moves));
}

pub made_one : {A T : Type 0} (one : Reads A) (s : A → List ℕ) (F : A → Type 0) → IsField one s F → (make : A → T) → IsMade (of_one one make) make s F
made_one one s F field make = record {
  takes = λ bytes all place r le e. let a = took one s F field bytes all place le (λ a. done (make a.value) a.next) r e in (a.0.value, a.0.next, a.3, a.1, a.2);
  again = λ bytes place p next h fits. rw (field.again bytes place p next h fits) refl;
}

module _ {A B T : Type 0} (one : Reads A) (s : A → List ℕ) (F : A → Type 0) (first : IsField one s F) (two : Reads B) (t : B → List ℕ) (G : B → Type 0) (second : IsField two t G) (make : A → B → T) where
  abbrev spell_two : A × B → List ℕ
  spell_two p = s p.0 ++ t p.1

  abbrev Fits_two : A × B → Type 0
  Fits_two p = F p.0 × G p.1

  takes_two : (bytes : List ℕ) → AreBytes bytes → (place : ℕ) (r : Read T) → place ≤ length bytes → of_two one two make bytes place ≡ Ok r → (p : A × B) × (next : ℕ) × (done (make p.0 p.1) next ≡ Ok r) × Stands bytes place (spell_two p) next × Fits_two p
  takes_two bytes all place r le e =
      let a = took one s F first bytes all place le (λ a. two bytes a.next >>= λ b. done (make a.value b.value) b.next) r e in
      let b = took two t G second bytes all a.0.next a.1.within (λ b. done (make a.0.value b.value) b.next) r a.3 in
      ((a.0.value, b.0.value), b.0.next, b.3, Stands-join bytes place (s a.0.value) a.0.next (t b.0.value) b.0.next a.1 b.1, (a.2, b.2))

  again_two : (bytes : List ℕ) (place : ℕ) (p : A × B) (next : ℕ) → Stands bytes place (spell_two p) next → Fits_two p → of_two one two make bytes place ≡ done (make p.0 p.1) next
  again_two bytes place p next h fits =
      let a = went one s F first bytes place p.0 (t p.1) next h fits.0 in
      let b = second.again bytes (place + length (s p.0)) p.1 next a.1 fits.1 in
      rw (a.0, b) refl

  pub made_two : IsMade (of_two one two make) (λ (p : A × B). make p.0 p.1) spell_two Fits_two
  made_two = record { takes = takes_two; again = again_two }

module _ {A B C T : Type 0} (one : Reads A) (s : A → List ℕ) (F : A → Type 0) (first : IsField one s F) (two : Reads B) (t : B → List ℕ) (G : B → Type 0) (second : IsField two t G) (three : Reads C) (u : C → List ℕ) (H : C → Type 0) (third : IsField three u H) (make : A → B → C → T) where
  abbrev spell_three : A × B × C → List ℕ
  spell_three p = s p.0 ++ t p.1 ++ u p.2

  abbrev Fits_three : A × B × C → Type 0
  Fits_three p = F p.0 × G p.1 × H p.2

  takes_three : (bytes : List ℕ) → AreBytes bytes → (place : ℕ) (r : Read T) → place ≤ length bytes → of_three one two three make bytes place ≡ Ok r → (p : A × B × C) × (next : ℕ) × (done (make p.0 p.1 p.2) next ≡ Ok r) × Stands bytes place (spell_three p) next × Fits_three p
  takes_three bytes all place r le e =
      let a = took one s F first bytes all place le (λ a. two bytes a.next >>= λ b. three bytes b.next >>= λ c. done (make a.value b.value c.value) c.next) r e in
      let b = took two t G second bytes all a.0.next a.1.within (λ b. three bytes b.next >>= λ c. done (make a.0.value b.value c.value) c.next) r a.3 in
      let c = took three u H third bytes all b.0.next b.1.within (λ c. done (make a.0.value b.0.value c.value) c.next) r b.3 in
      let both = Stands-join bytes place (s a.0.value) a.0.next (t b.0.value) b.0.next a.1 b.1 in
      ((a.0.value, b.0.value, c.0.value), c.0.next, c.3, Stands-join bytes place (s a.0.value ++ t b.0.value) b.0.next (u c.0.value) c.0.next both c.1, (a.2, b.2, c.2))

  again_three : (bytes : List ℕ) (place : ℕ) (p : A × B × C) (next : ℕ) → Stands bytes place (spell_three p) next → Fits_three p → of_three one two three make bytes place ≡ done (make p.0 p.1 p.2) next
  again_three bytes place p next h fits =
      let whole : Stands bytes place (s p.0 ++ (t p.1 ++ u p.2)) next = subst (λ (x : List ℕ). Stands bytes place x next) (append_assoc (s p.0) (t p.1) (u p.2)) h in
      let a = went one s F first bytes place p.0 (t p.1 ++ u p.2) next whole fits.0 in
      let b = went two t G second bytes (place + length (s p.0)) p.1 (u p.2) next a.1 fits.1 in
      let c = third.again bytes (place + length (s p.0) + length (t p.1)) p.2 next b.1 fits.2 in
      rw (a.0, b.0, c) refl

  pub made_three : IsMade (of_three one two three make) (λ (p : A × B × C). make p.0 p.1 p.2) spell_three Fits_three
  made_three = record { takes = takes_three; again = again_three }

module _ {A B C D T : Type 0} (one : Reads A) (s : A → List ℕ) (F : A → Type 0) (first : IsField one s F) (two : Reads B) (t : B → List ℕ) (G : B → Type 0) (second : IsField two t G) (three : Reads C) (u : C → List ℕ) (H : C → Type 0) (third : IsField three u H) (four : Reads D) (v : D → List ℕ) (I : D → Type 0) (fourth : IsField four v I) (make : A → B → C → D → T) where
  abbrev spell_four : A × B × C × D → List ℕ
  spell_four p = s p.0 ++ t p.1 ++ u p.2 ++ v p.3

  abbrev Fits_four : A × B × C × D → Type 0
  Fits_four p = F p.0 × G p.1 × H p.2 × I p.3

  takes_four : (bytes : List ℕ) → AreBytes bytes → (place : ℕ) (r : Read T) → place ≤ length bytes → of_four one two three four make bytes place ≡ Ok r → (p : A × B × C × D) × (next : ℕ) × (done (make p.0 p.1 p.2 p.3) next ≡ Ok r) × Stands bytes place (spell_four p) next × Fits_four p
  takes_four bytes all place r le e =
      let a = took one s F first bytes all place le (λ a. two bytes a.next >>= λ b. three bytes b.next >>= λ c. four bytes c.next >>= λ d. done (make a.value b.value c.value d.value) d.next) r e in
      let b = took two t G second bytes all a.0.next a.1.within (λ b. three bytes b.next >>= λ c. four bytes c.next >>= λ d. done (make a.0.value b.value c.value d.value) d.next) r a.3 in
      let c = took three u H third bytes all b.0.next b.1.within (λ c. four bytes c.next >>= λ d. done (make a.0.value b.0.value c.value d.value) d.next) r b.3 in
      let d = took four v I fourth bytes all c.0.next c.1.within (λ d. done (make a.0.value b.0.value c.0.value d.value) d.next) r c.3 in
      let ab = Stands-join bytes place (s a.0.value) a.0.next (t b.0.value) b.0.next a.1 b.1 in
      let abc = Stands-join bytes place (s a.0.value ++ t b.0.value) b.0.next (u c.0.value) c.0.next ab c.1 in
      ((a.0.value, b.0.value, c.0.value, d.0.value), d.0.next, d.3, Stands-join bytes place (s a.0.value ++ t b.0.value ++ u c.0.value) c.0.next (v d.0.value) d.0.next abc d.1, (a.2, b.2, c.2, d.2))

  regroup : (a b c d : List ℕ) → a ++ b ++ c ++ d ≡ a ++ (b ++ (c ++ d))
  regroup a b c d = simp append_assoc

  again_four : (bytes : List ℕ) (place : ℕ) (p : A × B × C × D) (next : ℕ) → Stands bytes place (spell_four p) next → Fits_four p → of_four one two three four make bytes place ≡ done (make p.0 p.1 p.2 p.3) next
  again_four bytes place p next h fits =
      let whole : Stands bytes place (s p.0 ++ (t p.1 ++ (u p.2 ++ v p.3))) next = subst (λ (x : List ℕ). Stands bytes place x next) (regroup (s p.0) (t p.1) (u p.2) (v p.3)) h in
      let a = went one s F first bytes place p.0 (t p.1 ++ (u p.2 ++ v p.3)) next whole fits.0 in
      let b = went two t G second bytes (place + length (s p.0)) p.1 (u p.2 ++ v p.3) next a.1 fits.1 in
      let c = went three u H third bytes (place + length (s p.0) + length (t p.1)) p.2 (v p.3) next b.1 fits.2 in
      let d = fourth.again bytes (place + length (s p.0) + length (t p.1) + length (u p.2)) p.3 next c.1 fits.3 in
      rw (a.0, b.0, c.0, d) refl

  pub made_four : IsMade (of_four one two three four make) (λ (p : A × B × C × D). make p.0 p.1 p.2 p.3) spell_four Fits_four
  made_four = record { takes = takes_four; again = again_four }

-- a reader makes its value of parts that fit by one test, and so by another that agrees with it
pub fits_alike : {P T : Type 0} (one : Reads T) (make : P → T) (spell : P → List ℕ) (F G : P → Type 0) → ((p : P) → F p → G p) → ((p : P) → G p → F p) → IsMade one make spell F → IsMade one make spell G
fits_alike one make spell F G there back made = record {
  takes = λ bytes all place r le e. let m = made.takes bytes all place r le e in (m.0, m.1, m.2, m.3, there m.0 m.4);
  again = λ bytes place p next h fits. made.again bytes place p next h (back p fits);
}

-- ---- after a tag

-- what follows this tag makes values that fit and are spelled with it
pub record IsCase {P T : Type 0} (one : Reads T) (make : P → T) (Parts : P → Type 0) (tag : ℕ) (spell : T → List ℕ) (Fits : T → Type 0) : Type 0 where
  pub takes : (bytes : List ℕ) → AreBytes bytes → (place : ℕ) (found : Read ℕ) (r : Read T) → Stands bytes place (number w8 found.value) found.next → eqb found.value tag ≡ true → one bytes found.next ≡ Ok r → Stands bytes place (spell r.value) r.next × Fits r.value
  pub again : (bytes : List ℕ) (place : ℕ) (p : P) (v : T) (next : ℕ) → v ≡ make p → Stands bytes place (spell v) next → Parts p → (after : Read ℕ → Result (Read T) ImageFault) → after (record { value = tag; next = place + 1 }) ≡ one bytes (place + 1) → (number_at w8 bytes place >>= after) ≡ done v next

module _ {P T : Type 0} (one : Reads T) (make : P → T) (rest : P → List ℕ) (Parts : P → Type 0) (made : IsMade one make rest Parts) (tag : ℕ) (small : tag < 256) (spell : T → List ℕ) (Fits : T → Type 0) (spelled : (p : P) → spell (make p) ≡ tag ∷ rest p) (fits : (p : P) → Parts p → Fits (make p)) where
  case_takes : (bytes : List ℕ) → AreBytes bytes → (place : ℕ) (found : Read ℕ) (r : Read T) → Stands bytes place (number w8 found.value) found.next → eqb found.value tag ≡ true → one bytes found.next ≡ Ok r → Stands bytes place (spell r.value) r.next × Fits r.value
  case_takes bytes all place found r stands is e =
      let front : Stands bytes place (tag ∷ []) found.next = subst (λ (x : List ℕ). Stands bytes place x found.next) (ap (λ (n : ℕ). number w8 n) (eqb-true _ _ is) ∙ number-w8 tag small) stands in
      let m = made.takes bytes all found.next r front.within e in
      let whole : Stands bytes place (tag ∷ rest m.0) m.1 = Stands-join bytes place (tag ∷ []) found.next (rest m.0) m.1 front m.3 in
      came spell Fits bytes place (make m.0) m.1 r m.2 (subst (λ (x : List ℕ). Stands bytes place x m.1) (sym (spelled m.0)) whole) (fits m.0 m.4)

  case_again : (bytes : List ℕ) (place : ℕ) (p : P) (v : T) (next : ℕ) → v ≡ make p → Stands bytes place (spell v) next → Parts p → (after : Read ℕ → Result (Read T) ImageFault) → after (record { value = tag; next = place + 1 }) ≡ one bytes (place + 1) → (number_at w8 bytes place >>= after) ≡ done v next
  case_again bytes place p v next is h parts after same =
      let whole : Stands bytes place (number w8 tag ++ rest p) next = subst (λ (x : List ℕ). Stands bytes place x next) (ap spell is ∙ spelled p ∙ ap (λ (x : List ℕ). x ++ rest p) (sym (number-w8 tag small))) h in
      let front = went (number_at w8) (number w8) (λ n. n < 2 ^ 8) byte_field bytes place tag (rest p) next whole small in
      let read : one bytes (place + 1) ≡ done (make p) next = made.again bytes (place + 1) p next front.1 parts in
      ap (λ (x : Result (Read ℕ) ImageFault). x >>= after) front.0 ∙ same ∙ read ∙ ap (λ (x : T). done x next) (sym is)

  pub a_case : IsCase one make Parts tag spell Fits
  a_case = record { takes = case_takes; again = case_again }

-- what a test leads to, whichever way it goes
pub pick : {T : Type 0} (Goal : Type 0) (b : Bool) (x y : Result T ImageFault) (r : T) → cond b x y ≡ Ok r → (b ≡ true → x ≡ Ok r → Goal) → (y ≡ Ok r → Goal) → Goal
pick Goal true x y r e f g = f refl e
pick Goal false x y r e f g = g e

-- ---- values with their own parts

-- where each value is made of its parts, what is made is a field
module _ {P T : Type 0} (one : Reads T) (make : P → T) (rest : P → List ℕ) (Parts : P → Type 0) (made : IsMade one make rest Parts) (spell : T → List ℕ) (Fits : T → Type 0) (parts : T → P) (same : (v : T) → make (parts v) ≡ v) (spelled : (p : P) → spell (make p) ≡ rest p) (fits : (p : P) → Parts p → Fits (make p)) (back : (v : T) → Fits v → Parts (parts v)) where
  field_takes : (bytes : List ℕ) → AreBytes bytes → (place : ℕ) (r : Read T) → place ≤ length bytes → one bytes place ≡ Ok r → Stands bytes place (spell r.value) r.next × Fits r.value
  field_takes bytes all place r le e =
      let m = made.takes bytes all place r le e in
      came spell Fits bytes place (make m.0) m.1 r m.2 (subst (λ (x : List ℕ). Stands bytes place x m.1) (sym (spelled m.0)) m.3) (fits m.0 m.4)

  field_again : (bytes : List ℕ) (place : ℕ) (v : T) (next : ℕ) → Stands bytes place (spell v) next → Fits v → one bytes place ≡ done v next
  field_again bytes place v next h f =
      let stands : Stands bytes place (rest (parts v)) next = subst (λ (x : List ℕ). Stands bytes place x next) (ap spell (sym (same v)) ∙ spelled (parts v)) h in
      made.again bytes place (parts v) next stands (back v f) ∙ ap (λ (x : T). done x next) (same v)

  pub made_field : IsField one spell Fits
  made_field = record { takes = field_takes; again = field_again }
