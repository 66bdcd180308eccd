-- Many fields are a field, with the count before them or without it.
use Rattle.std.proofs.Common.{◌≡◌, ℕ, zero, suc, ◌+◌, ◌<◌, ◌≤◌, Bool, true, false, cond, ltb, List, [], ◌∷◌, ◌++◌, length, Result, Ok, Err, refl, sym, ap, subst, arith}
use Rattle.std.specs.Prelude.{◌||◌, All}
use Rattle.std.specs.List.{flat_map, AllByRecursion}
use Rattle.std.specs.Int.{Width}
use Rattle.std.proofs.lemmas.Bool.{ltb-false, le-ltb}
use Rattle.std.proofs.lemmas.List.Concat.{flat_map-cons}
use Rattle.std.proofs.lemmas.List.Elements.{All-from_recursion, recursion_from_All}
use Rattle.som_model.specs.Bytes.{AreBytes}
use Rattle.som_model.specs.Steps.{◌>>=◌}
use Rattle.som_image_fields.specs.declared.fault.ImageFault.{ImageFault}
use Rattle.som_image_fields.specs.declared.fault.ImageFault.TheVariants as faults
use Rattle.som_image_fields.specs.declared.read.Read.{Read}
use Rattle.som_image_fields.specs.Fields.{Stands, done, many_at, counted_at}
use Rattle.som_image_fields.specs.Spelling.{number, counted, FitsCounted}
use Rattle.som_image_fields.specs.Reading.{number_at}
use Rattle.som_image_fields.proofs.Parts.{IsField, Stands-join, bind_ok, guard_no, came, took, went}

abbrev FitsMany : {A : Type 0} → (A → Type 0) → ℕ → List A → Type 0
FitsMany Fits n vs = (length vs ≡ n) × AllByRecursion Fits vs

many_takes : {A : Type 0} (one : List ℕ → ℕ → Result (Read A) ImageFault) (spell : A → List ℕ) (Fits : A → Type 0) → IsField one spell Fits → (n : ℕ) (bytes : List ℕ) → AreBytes bytes → (place : ℕ) (r : Read (List A)) → place ≤ length bytes → many_at (one bytes) n place ≡ Ok r → Stands bytes place (flat_map spell r.value) r.next × FitsMany Fits n r.value
unfolding many_at
many_takes {A} one spell Fits field zero bytes all place r le e =
    came (flat_map spell) (FitsMany Fits 0) bytes place [] place r e (record { parts = refl; moves = omega arith; within = le }) (refl, tt)
many_takes {A} one spell Fits field (suc n) bytes all place r le e =
    let a = took one spell Fits field bytes all place le (λ first. many_at (one bytes) n first.next >>= λ others. done (first.value ∷ others.value) others.next) r e in
    let b = bind_ok (many_at (one bytes) n a.0.next) (λ others. done (a.0.value ∷ others.value) others.next) r a.3 in
    let t = many_takes one spell Fits field n bytes all a.0.next b.0 a.1.within b.1 in
    let both = Stands-join bytes place (spell a.0.value) a.0.next (flat_map spell b.0.value) b.0.next a.1 t.0 in
    came (flat_map spell) (FitsMany Fits (suc n)) bytes place (a.0.value ∷ b.0.value) b.0.next r b.2 (rw flat_map-cons both) (ap suc t.1.0, (a.2, t.1.1))

many_again : {A : Type 0} (one : List ℕ → ℕ → Result (Read A) ImageFault) (spell : A → List ℕ) (Fits : A → Type 0) → IsField one spell Fits → (bytes : List ℕ) (place : ℕ) (vs : List A) (next : ℕ) → Stands bytes place (flat_map spell vs) next → AllByRecursion Fits vs → many_at (one bytes) (length vs) place ≡ done vs next
unfolding many_at
many_again one spell Fits field bytes place [] next h fits = ap (done []) (omega (arith, h.moves))
many_again one spell Fits field bytes place (v ∷ vs) next h fits =
    let parts : Stands bytes place (spell v ++ flat_map spell vs) next = subst (λ (t : List ℕ). Stands bytes place t next) (flat_map-cons spell v vs) h in
    let first = went one spell Fits field bytes place v (flat_map spell vs) next parts fits.0 in
    let others = many_again one spell Fits field bytes (place + length (spell v)) vs next first.1 fits.1 in
    rw (first.0, others) refl

-- so many fields, one after the other
pub many_field : {A : Type 0} (one : List ℕ → ℕ → Result (Read A) ImageFault) (spell : A → List ℕ) (Fits : A → Type 0) → IsField one spell Fits → (n : ℕ) → IsField (λ bytes. many_at (one bytes) n) (flat_map spell) (λ vs. (length vs ≡ n) × All Fits vs)
many_field {A} one spell Fits field n = record {
  takes = λ bytes all place r le e. let t = many_takes one spell Fits field n bytes all place r le e in (t.0, (t.1.0, All-from_recursion Fits r.value t.1.1));
  again = λ bytes place vs next h fits. subst (λ (k : ℕ). many_at (one bytes) k place ≡ done vs next) fits.0 (many_again one spell Fits field bytes place vs next h (recursion_from_All Fits vs fits.1));
}

-- neither of two tests holds
neither : (a b : Bool) → (a || b) ≡ false → (a ≡ false) × (b ≡ false)
neither true b e = absurd cc
neither false b e = (refl, e)

-- the numbers of a width that are below a limit count fields
module _ {A : Type 0} (w : Width) (limit : ℕ) (number_is : IsField (number_at w) (number w) (λ n. n < limit)) (one : List ℕ → ℕ → Result (Read A) ImageFault) (spell : A → List ℕ) (Fits : A → Type 0) (field : IsField one spell Fits) (least most : ℕ) where
  counted_takes : (bytes : List ℕ) → AreBytes bytes → (place : ℕ) (r : Read (List A)) → place ≤ length bytes → counted_at (number_at w bytes) least most (one bytes) place ≡ Ok r → Stands bytes place (counted w spell r.value) r.next × FitsCounted least most Fits r.value
  counted_takes bytes all place r le e =
      let n = took (number_at w) (number w) (λ n. n < limit) number_is bytes all place le (λ count. cond (ltb count.value least || ltb most count.value) (Err (faults.Number place)) (many_at (one bytes) count.value count.next)) r e in
      let count = n.0 in
      let g = guard_no (ltb count.value least || ltb most count.value) (faults.Number place) (many_at (one bytes) count.value count.next) r n.3 in
      let t = (many_field one spell Fits field count.value).takes bytes all count.next r n.1.within g.1 in
      let both = Stands-join bytes place (number w count.value) count.next (flat_map spell r.value) r.next n.1 t.0 in
      let whole : Stands bytes place (counted w spell r.value) r.next = subst (λ (k : ℕ). Stands bytes place (number w k ++ flat_map spell r.value) r.next) (sym t.1.0) both in
      let passed = neither (ltb count.value least) (ltb most count.value) g.0 in
      (whole, (omega (arith, t.1.0, ltb-false _ _ passed.0), omega (arith, t.1.0, ltb-false _ _ passed.1), t.1.1))

  counted_again : most < limit → (bytes : List ℕ) (place : ℕ) (vs : List A) (next : ℕ) → Stands bytes place (counted w spell vs) next → FitsCounted least most Fits vs → counted_at (number_at w bytes) least most (one bytes) place ≡ done vs next
  counted_again small bytes place vs next h fits =
      let n = went (number_at w) (number w) (λ n. n < limit) number_is bytes place (length vs) (flat_map spell vs) next h (omega (arith, fits.0, fits.1)) in
      let many = (many_field one spell Fits field (length vs)).again bytes (place + length (number w (length vs))) vs next n.1 (refl, fits.2) in
      rw (n.0, le-ltb (length vs) least fits.0, le-ltb most (length vs) fits.1, many) refl

  pub counted_field : most < limit → IsField (λ bytes. counted_at (number_at w bytes) least most (one bytes)) (counted w spell) (FitsCounted least most Fits)
  counted_field small = record { takes = counted_takes; again = counted_again small }
