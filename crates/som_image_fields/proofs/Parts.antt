-- Fields that stand one after the other, and what it is to read them.
use Rattle.std.proofs.Common.{◌≡◌, ℕ, ◌+◌, ◌≤◌, Bool, true, false, cond, List, ◌++◌, length, drop, Result, Ok, Err, refl, sym, ap, subst, ◌∙◌, append_assoc, arith, inl, inr, ◌⊎◌}
use Rattle.std.specs.Prelude.{IfOk}
use Rattle.std.proofs.lemmas.List.{drop_at, length-append, drop-drop}
use Rattle.som_model.specs.Bytes.{AreBytes}
use Rattle.som_model.specs.Steps.{◌>>=◌}
use Rattle.som_image_fields.specs.declared.fault.ImageFault.{ImageFault}
use Rattle.som_image_fields.specs.declared.read.Read.{Read}
use Rattle.som_image_fields.specs.Fields.{Stands, Gives, done}

-- ---- two texts, one after the other

pub Stands-join : (bytes : List ℕ) (p : ℕ) (x : List ℕ) (q : ℕ) (y : List ℕ) (r : ℕ) → Stands bytes p x q → Stands bytes q y r → Stands bytes p (x ++ y) r
Stands-join bytes p x q y r a b = record {
  parts = a.parts ∙ ap (λ (t : List ℕ). x ++ t) b.parts ∙ sym (append_assoc x y (drop r bytes));
  moves = omega (arith, a.moves, b.moves, length-append x y);
  within = b.within;
}

pub Stands-back : (bytes : List ℕ) (p : ℕ) (x y : List ℕ) (r : ℕ) → Stands bytes p (x ++ y) r → Stands bytes (p + length x) y r
Stands-back bytes p x y r h = record {
  parts = sym (drop-drop (length x) p bytes) ∙ ap (drop (length x)) (h.parts ∙ append_assoc x y (drop r bytes)) ∙ drop_at x (y ++ drop r bytes) (length x) refl;
  moves = omega (arith, h.moves, length-append x y);
  within = h.within;
}

pub Stands-front : (bytes : List ℕ) (p : ℕ) (x y : List ℕ) (r : ℕ) → Stands bytes p (x ++ y) r → Stands bytes p x (p + length x)
Stands-front bytes p x y r h = record {
  parts = h.parts ∙ append_assoc x y (drop r bytes) ∙ ap (λ (t : List ℕ). x ++ t) (sym (Stands-back bytes p x y r h).parts);
  moves = refl;
  within = omega (arith, h.moves, h.within, length-append x y);
}

-- ---- a field

-- what is read is the one spelling of a value that fits, and each such spelling is read
pub record IsField {A : Type 0} (one : List ℕ → ℕ → Result (Read A) ImageFault) (spell : A → List ℕ) (Fits : A → Type 0) : Type 0 where
  pub takes : (bytes : List ℕ) → AreBytes bytes → (place : ℕ) (r : Read A) → place ≤ length bytes → one bytes place ≡ Ok r → Stands bytes place (spell r.value) r.next × Fits r.value
  pub again : (bytes : List ℕ) (place : ℕ) (v : A) (next : ℕ) → Stands bytes place (spell v) next → Fits v → one bytes place ≡ done v next

-- ---- steps that didn't fail

pub bind_ok : {A B : Type 0} (r : Result A ImageFault) (f : A → Result B ImageFault) (y : B) → (r >>= f) ≡ Ok y → (x : A) × (r ≡ Ok x) × (f x ≡ Ok y)
bind_ok (Ok x) f y e = (x, refl, e)
bind_ok (Err fault) f y e = absurd cc

-- which way a test went
pub chosen : {A : Type 0} (b : Bool) (x y z : A) → cond b x y ≡ z → ((b ≡ true) × (x ≡ z)) ⊎ ((b ≡ false) × (y ≡ z))
chosen true x y z e = inl (refl, e)
chosen false x y z e = inr (refl, e)

pub guard_no : {A : Type 0} (b : Bool) (fault : ImageFault) (x : Result A ImageFault) (y : A) → cond b (Err fault) x ≡ Ok y → (b ≡ false) × (x ≡ Ok y)
guard_no true fault x y e = absurd cc
guard_no false fault x y e = (refl, e)

pub guard_yes : {A : Type 0} (b : Bool) (fault : ImageFault) (x : Result A ImageFault) (y : A) → cond b x (Err fault) ≡ Ok y → (b ≡ true) × (x ≡ Ok y)
guard_yes true fault x y e = (refl, e)
guard_yes false fault x y e = absurd cc

pub same_read : {A : Type 0} (x y : Read A) → done x.value x.next ≡ Ok y → x ≡ y
same_read x y e = cc

-- a field that was read before what follows
pub took : {A B : Type 0} (one : List ℕ → ℕ → Result (Read A) ImageFault) (spell : A → List ℕ) (Fits : A → Type 0) → IsField one spell Fits → (bytes : List ℕ) → AreBytes bytes → (place : ℕ) → place ≤ length bytes → (f : Read A → Result B ImageFault) (y : B) → (one bytes place >>= f) ≡ Ok y → (x : Read A) × Stands bytes place (spell x.value) x.next × Fits x.value × (f x ≡ Ok y)
took one spell Fits field bytes all place le f y e =
    let b = bind_ok (one bytes place) f y e in
    let t = field.takes bytes all place b.0 le b.1 in
    (b.0, t.0, t.1, b.2)

-- a value that came out
pub came : {A : Type 0} (spell : A → List ℕ) (Fits : A → Type 0) (bytes : List ℕ) (place : ℕ) (v : A) (next : ℕ) (r : Read A) → done v next ≡ Ok r → Stands bytes place (spell v) next → Fits v → Stands bytes place (spell r.value) r.next × Fits r.value
came {A} spell Fits bytes place v next r e stands fits =
    let made : Read A = record { value = v; next = next } in
    subst (λ (x : Read A). Stands bytes place (spell x.value) x.next × Fits x.value) (same_read made r e) (stands, fits)

-- a field that stands before others is read, and they stand after it
pub went : {A : Type 0} (one : List ℕ → ℕ → Result (Read A) ImageFault) (spell : A → List ℕ) (Fits : A → Type 0) → IsField one spell Fits → (bytes : List ℕ) (place : ℕ) (v : A) (others : List ℕ) (next : ℕ) → Stands bytes place (spell v ++ others) next → Fits v → (one bytes place ≡ done v (place + length (spell v))) × Stands bytes (place + length (spell v)) others next
went one spell Fits field bytes place v others next h fits =
    (field.again bytes place v (place + length (spell v)) (Stands-front bytes place (spell v) others next h) fits, Stands-back bytes place (spell v) others next h)

-- ---- what a reader that gives a field may say

pub found_of : {A : Type 0} (one : List ℕ → ℕ → Result (Read A) ImageFault) (spell : A → List ℕ) (Fits : A → Type 0) → IsField one spell Fits → (bytes : List ℕ) → AreBytes bytes → (place : ℕ) (result : Result (Read A) ImageFault) → place ≤ length bytes → Gives result (one bytes place) → IfOk result (λ r. Stands bytes place (spell r.value) r.next × Fits r.value)
found_of one spell Fits field bytes all place (Ok r) le given = field.takes bytes all place r le given
found_of one spell Fits field bytes all place (Err fault) le given = tt

pub only_of : {A : Type 0} (one : List ℕ → ℕ → Result (Read A) ImageFault) (spell : A → List ℕ) (Fits : A → Type 0) → IsField one spell Fits → (bytes : List ℕ) (place : ℕ) (result : Result (Read A) ImageFault) → Gives result (one bytes place) → (v : A) (next : ℕ) → Stands bytes place (spell v) next → Fits v → Gives result (done v next)
only_of {A} one spell Fits field bytes place result given v next h fits = subst (λ (x : Result (Read A) ImageFault). Gives result x) (field.again bytes place v next h fits) given

-- what a reader that takes no memory may give: a value that fits, whose spelling stands where it was read
pub found_in : {A : Type 0} (one : List ℕ → ℕ → Result (Read A) ImageFault) (spell : A → List ℕ) (Fits : A → Type 0) → IsField one spell Fits → (bytes : List ℕ) → AreBytes bytes → (place : ℕ) (result : Result (Read A) ImageFault) → place ≤ length bytes → result ≡ one bytes place → IfOk result (λ r. Stands bytes place (spell r.value) r.next × Fits r.value)
found_in one spell Fits field bytes all place (Ok r) le is = field.takes bytes all place r le (sym is)
found_in one spell Fits field bytes all place (Err fault) le is = tt
