-- Reading the head of a tower image answers what the bytes spell, and nothing else.
use Rattle.std.proofs.Common.{◌≡◌, ℕ, ◌^◌, ◌<◌, ◌≤◌, inl, inr, Bool, true, false, cond, eqb, leb, List, length, Result, Ok, Err, refl, subst, arith}
use Rattle.std.specs.Prelude.{◌&&◌, All, IfOk}
use Rattle.std.specs.List.{flat_map}
use Rattle.std.specs.Int.{w8, w16}
use Rattle.std.proofs.lemmas.Bool.{leb-true, le-leb, eqb-true}
use Rattle.som_model.specs.Bytes.{AreBytes}
use Rattle.som_model.proofs.KeyLaws.{both}
use Rattle.som_image_fields.specs.declared.fault.ImageFault.{ImageFault}
use Rattle.som_image_fields.specs.declared.fault.ImageFault.TheVariants as faults
use Rattle.som_image_fields.specs.declared.read.Read.{Read}
use Rattle.som_image_fields.specs.Fields.{Stands, Gives, done}
use Rattle.som_image_fields.specs.Spelling.{number}
use Rattle.som_image_fields.specs.Reading.{number_at}
use Rattle.som_image_fields.proofs.Parts.{IsField, chosen, guard_yes, same_read, came, took}
use Rattle.som_image_fields.proofs.NumberFields.{byte_field, short_field}
use Rattle.som_image_fields.proofs.ManyFields.{many_field}
use Rattle.som_towerimage.specs.declared.level.TheConstants.{MAX_BELOW_CLIENT, MAX_BELOW_LIBRARY}
use Rattle.som_towerimage.specs.Reading.{below_at, flag_at, sizes_at}
use Rattle.som_towerimage.specs.Spelling.{most_below, flag}

-- ---- how many levels are below

abbrev pub IsBelow : ℕ → Type 0
IsBelow n = (1 ≤ n) × (n ≤ MAX_BELOW_CLIENT)

abbrev is_below : ℕ → Bool
is_below n = leb 1 n && leb n MAX_BELOW_CLIENT

below_takes : (bytes : List ℕ) → AreBytes bytes → (place : ℕ) (r : Read ℕ) → place ≤ length bytes → below_at bytes place ≡ Ok r → Stands bytes place (number w8 r.value) r.next × IsBelow r.value
below_takes bytes all place r le e =
    let n = took (number_at w8) (number w8) (λ n. n < 2 ^ 8) byte_field bytes all place le (λ n. cond (is_below n.value) (Ok n) (Err (faults.Number place))) r e in
    let g = guard_yes (is_below n.0.value) (faults.Number place) (Ok n.0) r n.3 in
    let b = both (leb 1 n.0.value) (leb n.0.value MAX_BELOW_CLIENT) g.0 in
    subst (λ (x : Read ℕ). Stands bytes place (number w8 x.value) x.next × IsBelow x.value) (same_read n.0 r g.1) (n.1, (leb-true _ _ b.0, leb-true _ _ b.1))

below_again : (bytes : List ℕ) (place n next : ℕ) → Stands bytes place (number w8 n) next → IsBelow n → below_at bytes place ≡ done n next
below_again bytes place n next h is =
    let read = byte_field.again bytes place n next h (omega (arith, is.1)) in
    rw (read, le-leb 1 n is.0, le-leb n MAX_BELOW_CLIENT is.1) refl

pub below_field : IsField below_at (number w8) IsBelow
below_field = record { takes = below_takes; again = below_again }

-- ---- whether it is a client

module _ (below : ℕ) (few : below ≤ MAX_BELOW_CLIENT) where
  -- so many levels have room below
  abbrev pub HasRoom : Bool → Type 0
  HasRoom client = below ≤ most_below client

  abbrev is_library : ℕ → Bool
  is_library n = eqb n 0 && leb below MAX_BELOW_LIBRARY

  abbrev as_flag : ℕ → Read ℕ → Result (Read Bool) ImageFault
  as_flag place n = cond (eqb n.value 1) (done true n.next) (cond (is_library n.value) (done false n.next) (Err (faults.Tag place)))

  flag_takes : (bytes : List ℕ) → AreBytes bytes → (place : ℕ) (r : Read Bool) → place ≤ length bytes → flag_at below bytes place ≡ Ok r → Stands bytes place (flag r.value) r.next × HasRoom r.value
  flag_takes bytes all place r le e =
      let n = took (number_at w8) (number w8) (λ n. n < 2 ^ 8) byte_field bytes all place le (as_flag place) r e in
      let tag : Read ℕ = n.0 in
      elim (chosen (eqb tag.value 1) _ _ _ n.3) [
        | inl w ↦ came flag HasRoom bytes place true tag.next r w.1 (subst (λ (v : ℕ). Stands bytes place (number w8 v) tag.next) (eqb-true _ _ w.0) n.1) few
        | inr u ↦
            let g = guard_yes (is_library tag.value) (faults.Tag place) (done false tag.next) r u.1 in
            let b = both (eqb tag.value 0) (leb below MAX_BELOW_LIBRARY) g.0 in
            came flag HasRoom bytes place false tag.next r g.1 (subst (λ (v : ℕ). Stands bytes place (number w8 v) tag.next) (eqb-true _ _ b.0) n.1) (leb-true _ _ b.1)
      ]

  flag_again : (bytes : List ℕ) (place : ℕ) (v : Bool) (next : ℕ) → Stands bytes place (flag v) next → HasRoom v → flag_at below bytes place ≡ done v next
  flag_again bytes place true next h room = rw (byte_field.again bytes place 1 next h (omega arith)) refl
  flag_again bytes place false next h room = rw (byte_field.again bytes place 0 next h (omega arith), le-leb below MAX_BELOW_LIBRARY room) refl

  pub flag_field : IsField (flag_at below) flag HasRoom
  flag_field = record { takes = flag_takes; again = flag_again }

-- ---- sizes

abbrev pub AreSizes : ℕ → List ℕ → Type 0
AreSizes below sizes = (length sizes ≡ below) × All (λ (n : ℕ). n < 2 ^ 16) sizes

pub sizes_field : (below : ℕ) → IsField (sizes_at below) (flat_map (number w16)) (AreSizes below)
sizes_field below = many_field (number_at w16) (number w16) (λ n. n < 2 ^ 16) short_field below

pub sizes_many : (below : ℕ) (bytes : List ℕ) → AreBytes bytes → (place : ℕ) → place ≤ length bytes → (result : Result (Read (List ℕ)) ImageFault) → Gives result (sizes_at below bytes place) → IfOk result (λ r. length r.value ≡ below)
sizes_many below bytes all place le (Ok r) given = ((sizes_field below).takes bytes all place r le given).1.0
sizes_many below bytes all place le (Err fault) given = tt
