-- The selects of classes are fields: each with its number, one after the other.
use Rattle.std.proofs.Common.{◌≡◌, ℕ, zero, suc, ◌+◌, ◌-◌, ◌<◌, ◌≤◌, ◌^◌, Bool, true, false, cond, ltb, leb, List, [], ◌∷◌, ◌++◌, length, Result, Ok, Err, refl, sym, ap, subst, arith}
use Rattle.std.specs.Prelude.{◌&&◌, ◌||◌, All}
use Rattle.std.specs.List.{flat_map, AllByRecursion}
use Rattle.std.specs.Int.{w8, w16}
use Rattle.std.proofs.lemmas.Bool.{ltb-false, ltb-true, le-ltb, lt-ltb, leb-true, le-leb}
use Rattle.std.proofs.lemmas.List.Concat.{flat_map-cons}
use Rattle.std.proofs.lemmas.List.Elements.{All-weaker, All-from_recursion}
use Rattle.som_model.specs.declared.limits.TheConstants.{MAX_SELECTS}
use Rattle.som_model.specs.Bytes.{AreBytes}
use Rattle.som_model.specs.Steps.{◌>>=◌}
use Rattle.som_model.proofs.KeyLaws.{both}
use Rattle.som_image_fields.specs.declared.fault.ImageFault.{ImageFault}
use Rattle.som_image_fields.specs.declared.fault.ImageFault.TheVariants as faults
use Rattle.som_image_fields.specs.declared.read.Read.{Read}
use Rattle.som_image_fields.specs.declared.method.WireMethod.{WireMethod}
use Rattle.som_image_fields.specs.declared.method.Ranges.{Ranges}
use Rattle.som_image_fields.specs.Fields.{Stands, done}
use Rattle.som_image_fields.specs.Spelling.{number, counted, method, FitsMethod, FitsSomeRanges, AreShort, most_classes}
use Rattle.som_image_fields.specs.Reading.{number_at, method_at}
use Rattle.som_image_fields.proofs.Parts.{IsField, Stands-join, bind_ok, guard_no, guard_yes, same_read, came, took, went}
use Rattle.som_image_fields.proofs.NumberFields.{byte_field, short_field}
use Rattle.som_image_fields.proofs.ManyFields.{counted_field}
use Rattle.som_image_fields.proofs.EntryFields.{method_field}
use Rattle.som_image_fields.specs.declared.selects.WireSelect.{WireSelect}
use Rattle.som_image_fields.specs.declared.selects.WireSelects.{WireSelects}
use Rattle.som_image_fields.specs.SyntaxSpelling.{select, class_selects, selects}
use Rattle.som_image_fields.specs.Fitting.{FitsSelect, FitsOwnSelects, FitsClassSelects, FitAscending, FitsSelects}
use Rattle.som_wire.specs.Reading.{select_at, own_selects_at, class_from_at, class_selects_at, ascending_at, selects_at}
use Rattle.som_wire.proofs.Made.{made_two, made_field}

-- ---- ascending numbers

-- there are no more of them than numbers that are left
pub as_few : (classes : ℕ) (Method : WireMethod → Type 0) (least : ℕ) (cs : List WireSelects) → 1 ≤ length cs → FitAscending classes Method least cs → length cs + least ≤ classes
as_few classes Method least [] some fits = absurd (omega arith)
as_few classes Method least (c ∷ []) some fits = omega (arith, fits.0.reached, fits.0.below)
as_few classes Method least (c ∷ d ∷ cs) some fits =
    let h = as_few classes Method (suc c.class) (d ∷ cs) (omega arith) fits.1 in
    omega (arith, h, fits.0.reached)

-- ---- numbers of classes

neither : (a b : Bool) → (a || b) ≡ false → (a ≡ false) × (b ≡ false)
neither true b e = absurd cc
neither false b e = (refl, e)

abbrev IsFrom : ℕ → ℕ → ℕ → Type 0
IsFrom least classes n = (least ≤ n) × (n < classes)

class_takes : (least classes : ℕ) (bytes : List ℕ) → AreBytes bytes → (place : ℕ) (r : Read ℕ) → place ≤ length bytes → class_from_at least classes bytes place ≡ Ok r → Stands bytes place (number w16 r.value) r.next × IsFrom least classes r.value
unfolding class_from_at
class_takes least classes bytes all place r le e =
    let n = took (number_at w16) (number w16) (λ n. n < 2 ^ 16) short_field bytes all place le (λ n. cond (leb least n.value && ltb n.value classes) (Ok n) (Err (faults.Number place))) r e in
    let g = guard_yes (leb least n.0.value && ltb n.0.value classes) (faults.Number place) (Ok n.0) r n.3 in
    let b = both (leb least n.0.value) (ltb n.0.value classes) g.0 in
    subst (λ (x : Read ℕ). Stands bytes place (number w16 x.value) x.next × IsFrom least classes x.value) (same_read n.0 r g.1) (n.1, (leb-true _ _ b.0, ltb-true _ _ b.1))

class_again : (least classes : ℕ) → classes < 2 ^ 16 → (bytes : List ℕ) (place n next : ℕ) → Stands bytes place (number w16 n) next → IsFrom least classes n → class_from_at least classes bytes place ≡ done n next
unfolding class_from_at
class_again least classes small bytes place n next h is =
    let read = short_field.again bytes place n next h (omega (arith, is.1)) in
    rw (read, le-leb least n is.0, lt-ltb n classes is.1) refl

class_field : (least classes : ℕ) → classes < 2 ^ 16 → IsField (class_from_at least classes) (number w16) (IsFrom least classes)
class_field least classes small = record { takes = class_takes least classes; again = class_again least classes small }

module _ (ranges : Ranges) (known : AreShort ranges) where
  abbrev Method : WireMethod → Type 0
  Method = FitsMethod ranges

  select_field : IsField (select_at ranges) select (FitsSelect Method)
  unfolding select_at
  select_field =
      made_field (select_at ranges) (λ (p : WireMethod × ℕ). record { method = p.0; parent = p.1 }) (λ p. method p.0 ++ number w8 p.1) (λ p. FitsMethod ranges p.0 × (p.1 < 2 ^ 8))
      (made_two (method_at ranges) method (FitsMethod ranges) (method_field ranges known) (number_at w8) (number w8) (λ n. n < 2 ^ 8) byte_field (λ method parent. record { method = method; parent = parent }))
      select (FitsSelect Method) (λ s. (s.method, s.parent)) (λ s. refl) (λ p. refl) (λ p fits. record { method = fits.0; parent = fits.1 }) (λ s fits. (fits.method, fits.parent))

  abbrev FitsList : List WireSelect → Type 0
  FitsList ss = (1 ≤ length ss) × (length ss ≤ MAX_SELECTS) × All (FitsSelect Method) ss

  own_field : IsField (own_selects_at ranges) (counted w16 select) FitsList
  own_field = counted_field w16 (2 ^ 16) short_field (select_at ranges) select (FitsSelect Method) select_field 1 MAX_SELECTS (omega arith)

  class_selects_field : (least : ℕ) → IsField (class_selects_at ranges least) class_selects (FitsClassSelects ranges.classes Method least)
  unfolding class_selects_at
  class_selects_field least =
      made_field (class_selects_at ranges least) (λ (p : ℕ × List WireSelect). record { class = p.0; selects = p.1 }) (λ p. number w16 p.0 ++ counted w16 select p.1) (λ p. IsFrom least ranges.classes p.0 × FitsList p.1)
      (made_two (class_from_at least ranges.classes) (number w16) (IsFrom least ranges.classes) (class_field least ranges.classes known.classes) (own_selects_at ranges) (counted w16 select) FitsList own_field (λ class selects. record { class = class; selects = selects }))
      class_selects (FitsClassSelects ranges.classes Method least) (λ c. (c.class, c.selects)) (λ c. refl) (λ p. refl) (λ p fits. record { reached = fits.0.0; below = fits.0.1; selects = fits.1 }) (λ c fits. ((fits.reached, fits.below), fits.selects))

  -- ---- so many of them

  abbrev FitsMany : ℕ → ℕ → List WireSelects → Type 0
  FitsMany n least cs = (length cs ≡ n) × FitAscending ranges.classes Method least cs

  ascending_takes : (n least : ℕ) (bytes : List ℕ) → AreBytes bytes → (place : ℕ) (r : Read (List WireSelects)) → place ≤ length bytes → ascending_at ranges n least bytes place ≡ Ok r → Stands bytes place (flat_map class_selects r.value) r.next × FitsMany n least r.value
  unfolding ascending_at
  ascending_takes zero least bytes all place r le e =
      came (flat_map class_selects) (FitsMany 0 least) bytes place [] place r e (record { parts = refl; moves = omega arith; within = le }) (refl, tt)
  ascending_takes (suc n) least bytes all place r le e =
      let a = took (class_selects_at ranges least) class_selects (FitsClassSelects ranges.classes Method least) (class_selects_field least) bytes all place le (λ first. ascending_at ranges n (suc first.value.class) bytes first.next >>= λ others. done (first.value ∷ others.value) others.next) r e in
      let b = bind_ok (ascending_at ranges n (suc a.0.value.class) bytes a.0.next) (λ others. done (a.0.value ∷ others.value) others.next) r a.3 in
      let t = ascending_takes n (suc a.0.value.class) bytes all a.0.next b.0 a.1.within b.1 in
      let both = Stands-join bytes place (class_selects a.0.value) a.0.next (flat_map class_selects b.0.value) b.0.next a.1 t.0 in
      came (flat_map class_selects) (FitsMany (suc n) least) bytes place (a.0.value ∷ b.0.value) b.0.next r b.2 (rw flat_map-cons both) (ap suc t.1.0, (a.2, t.1.1))

  ascending_again : (least : ℕ) (bytes : List ℕ) (place : ℕ) (cs : List WireSelects) (next : ℕ) → Stands bytes place (flat_map class_selects cs) next → FitAscending ranges.classes Method least cs → ascending_at ranges (length cs) least bytes place ≡ done cs next
  unfolding ascending_at
  ascending_again least bytes place [] next h fits = ap (done []) (omega (arith, h.moves))
  ascending_again least bytes place (c ∷ cs) next h fits =
      let parts : Stands bytes place (class_selects c ++ flat_map class_selects cs) next = subst (λ (t : List ℕ). Stands bytes place t next) (flat_map-cons class_selects c cs) h in
      let first = went (class_selects_at ranges least) class_selects (FitsClassSelects ranges.classes Method least) (class_selects_field least) bytes place c (flat_map class_selects cs) next parts fits.0 in
      let others = ascending_again (suc c.class) bytes (place + length (class_selects c)) cs next first.1 fits.1 in
      rw (first.0, others) refl

  -- ---- with their number

  abbrev too_few_or_many : ℕ → ℕ → Bool
  too_few_or_many first n = ltb n 1 || ltb (ranges.classes - first) n

  selects_takes : (first : ℕ) (bytes : List ℕ) → AreBytes bytes → (place : ℕ) (r : Read (List WireSelects)) → place ≤ length bytes → selects_at ranges first bytes place ≡ Ok r → Stands bytes place (selects r.value) r.next × FitsSelects ranges.classes Method first r.value
  unfolding selects_at
  selects_takes first bytes all place r le e =
      let n = took (number_at w16) (number w16) (λ n. n < 2 ^ 16) short_field bytes all place le (λ count. cond (too_few_or_many first count.value) (Err (faults.Number place)) (ascending_at ranges count.value first bytes count.next)) r e in
      let count = n.0 in
      let g = guard_no (too_few_or_many first count.value) (faults.Number place) (ascending_at ranges count.value first bytes count.next) r n.3 in
      let t = ascending_takes count.value first bytes all count.next r n.1.within g.1 in
      let both = Stands-join bytes place (number w16 count.value) count.next (flat_map class_selects r.value) r.next n.1 t.0 in
      let passed = neither (ltb count.value 1) (ltb (ranges.classes - first) count.value) g.0 in
      let some : 1 ≤ length r.value = omega (arith, t.1.0, ltb-false _ _ passed.0) in
      (subst (λ (k : ℕ). Stands bytes place (number w16 k ++ flat_map class_selects r.value) r.next) (sym t.1.0) both, record { some = some; ascend = t.1.1 })

  selects_again : (first : ℕ) (bytes : List ℕ) (place : ℕ) (cs : List WireSelects) (next : ℕ) → Stands bytes place (selects cs) next → FitsSelects ranges.classes Method first cs → selects_at ranges first bytes place ≡ done cs next
  unfolding selects_at
  selects_again first bytes place cs next h fits =
      let few = as_few ranges.classes Method first cs fits.some fits.ascend in
      let n = went (number_at w16) (number w16) (λ n. n < 2 ^ 16) short_field bytes place (length cs) (flat_map class_selects cs) next h (omega (arith, few, known.classes)) in
      let many = ascending_again first bytes (place + length (number w16 (length cs))) cs next n.1 fits.ascend in
      rw (n.0, le-ltb (length cs) 1 fits.some, le-ltb (ranges.classes - first) (length cs) (omega (arith, few)), many) refl

  pub selects_field : (first : ℕ) → IsField (selects_at ranges first) selects (FitsSelects ranges.classes Method first)
  selects_field first = record { takes = selects_takes first; again = selects_again first }

-- ---- selects that fit certain classes and entries can stand somewhere

select_some : (ranges : Ranges) → AreShort ranges → (s : WireSelect) → FitsSelect (FitsMethod ranges) s → FitsSelect FitsSomeRanges s
select_some ranges known s fits = record {
  method = record { class = omega (arith, known.classes, fits.method.class); slot = omega (arith, known.entries s.method.class, fits.method.slot) };
  parent = fits.parent;
}

ascend_some : (ranges : Ranges) → AreShort ranges → (least lower : ℕ) → lower ≤ least → (cs : List WireSelects) → FitAscending ranges.classes (FitsMethod ranges) least cs → FitAscending most_classes FitsSomeRanges lower cs
ascend_some ranges known least lower le [] fits = tt
ascend_some ranges known least lower le (c ∷ cs) fits = (
  record {
    reached = omega (arith, le, fits.0.reached);
    below = omega (arith, known.classes, fits.0.below);
    selects = (fits.0.selects.0, fits.0.selects.1, All-weaker (FitsSelect (FitsMethod ranges)) (FitsSelect FitsSomeRanges) (select_some ranges known) c.selects fits.0.selects.2);
  },
  ascend_some ranges known (suc c.class) (suc c.class) (omega arith) cs fits.1,
)

pub selects_some : (ranges : Ranges) → AreShort ranges → (first : ℕ) (cs : List WireSelects) → FitsSelects ranges.classes (FitsMethod ranges) first cs → FitsSelects most_classes FitsSomeRanges 0 cs
selects_some ranges known first cs fits = record { some = fits.some; ascend = ascend_some ranges known first 0 (omega arith) cs fits.ascend }

-- ---- what writing asks for

each_own : (classes : ℕ) (Method : WireMethod → Type 0) (least : ℕ) (cs : List WireSelects) → FitAscending classes Method least cs → AllByRecursion (FitsOwnSelects Method) cs
each_own classes Method least [] fits = tt
each_own classes Method least (c ∷ cs) fits = (fits.0.selects, each_own classes Method (suc c.class) cs fits.1)

pub all_own : (classes : ℕ) (Method : WireMethod → Type 0) (first : ℕ) (cs : List WireSelects) → FitsSelects classes Method first cs → All (FitsOwnSelects Method) cs
all_own classes Method first cs fits = All-from_recursion (FitsOwnSelects Method) cs (each_own classes Method first cs fits.ascend)

pub few_some : (cs : List WireSelects) → FitsSelects most_classes FitsSomeRanges 0 cs → length cs < 2 ^ 16
few_some cs fits = let few = as_few most_classes FitsSomeRanges 0 cs fits.some fits.ascend in omega (arith, few)
