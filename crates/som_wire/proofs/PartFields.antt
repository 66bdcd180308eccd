-- What the part of a class holds are fields.
use Rattle.std.proofs.Common.{◌≡◌, ℕ, ◌<◌, ◌≤◌, ◌^◌, eqb, List, ◌++◌, length, Result, Ok, refl, arith}
use Rattle.std.specs.Prelude.{false, All}
use Rattle.std.specs.List.{flat_map}
use Rattle.std.specs.Int.{w8, w16}
use Rattle.som_model.specs.Bytes.{AreBytes}
use Rattle.som_model.specs.declared.limits.TheConstants.{MAX_VARIABLES, MAX_OVERRIDES}
use Rattle.som_image_fields.specs.declared.fault.ImageFault.{ImageFault}
use Rattle.som_image_fields.specs.declared.read.Read.{Read}
use Rattle.som_image_fields.specs.declared.kind.WireType.{WireType}
use Rattle.som_image_fields.specs.declared.method.WireMethod.{WireMethod}
use Rattle.som_image_fields.specs.declared.method.Ranges.{Ranges}
use Rattle.som_image_fields.specs.Fields.{Stands, done}
use Rattle.som_image_fields.specs.Spelling.{number, text, FitsText, counted, FitsCounted, kind, FitsKind, method, FitsMethod, AreShort}
use Rattle.som_image_fields.specs.Reading.{number_at, text_at, kind_at, method_at}
use Rattle.som_image_fields.proofs.Parts.{IsField, took}
use Rattle.som_image_fields.proofs.NumberFields.{byte_field, short_field, text_field}
use Rattle.som_image_fields.proofs.ManyFields.{many_field, counted_field}
use Rattle.som_image_fields.proofs.TypeFields.{kind_field}
use Rattle.som_image_fields.proofs.EntryFields.{method_field}
use Rattle.som_image_fields.specs.declared.syntax.WireBlock.{WireBlock}
use Rattle.som_image_fields.specs.declared.syntax.WireVariable.{WireVariable}
use Rattle.som_image_fields.specs.declared.syntax.WireBody.{WireBody}
use Rattle.som_image_fields.specs.declared.syntax.WireBody.TheVariants as bodies
use Rattle.som_image_fields.specs.declared.syntax.WireOverride.{WireOverride}
use Rattle.som_wire.specs.Making.{Reads, of_one}
use Rattle.som_image_fields.specs.SyntaxSpelling.{block, variable, body, overridden, part}
use Rattle.som_image_fields.specs.Fitting.{levels_left, FitsBlock, FitsVariable, FitsBody, FitsOverride, FitsPart}
use Rattle.som_wire.specs.Reading.{block_at, variable_at, body_after, body_at, override_at, variables_at, bodies_at, overrides_at, part_at}
use Rattle.som_wire.proofs.Made.{made_one, made_two, made_three, IsCase, a_case, pick, made_field}
use Rattle.som_wire.proofs.StmtFields.{block_field}

pub variable_field : (classes : ℕ) → classes < 2 ^ 16 → IsField (variable_at classes) variable (FitsVariable classes)
unfolding variable_at
variable_field classes small =
    made_field (variable_at classes) (λ (p : List ℕ × WireType). record { name = p.0; kind = p.1 }) (λ p. text p.0 ++ kind p.1) (λ p. FitsText p.0 × FitsKind classes false p.1)
    (made_two text_at text FitsText text_field (kind_at classes false) kind (FitsKind classes false) (kind_field classes false small) (λ name kind. record { name = name; kind = kind }))
    variable (FitsVariable classes) (λ v. (v.name, v.kind)) (λ v. refl) (λ p. refl) (λ p fits. record { name = fits.0; kind = fits.1 }) (λ v fits. (fits.name, fits.kind))

module _ (ranges : Ranges) (known : AreShort ranges) where
  abbrev Fits : WireBody → Type 0
  Fits = FitsBody ranges.classes (FitsMethod ranges)

  abbrev the_block_at : Reads WireBlock
  the_block_at = block_at (levels_left 1) ranges

  abbrev FitsHere : WireBlock → Type 0
  FitsHere = FitsBlock (levels_left 1) ranges.classes (FitsMethod ranges)

  user_case : IsCase (of_one the_block_at bodies.User) (λ (b : WireBlock). bodies.User b) FitsHere 0 body Fits
  user_case = a_case (of_one the_block_at bodies.User) (λ (b : WireBlock). bodies.User b) block FitsHere (made_one the_block_at block FitsHere (block_field ranges known (levels_left 1)) bodies.User) 0 (omega arith) body Fits (λ b. refl) (λ b fits. fits)

  get_case : IsCase (of_one (number_at w8) bodies.Get) (λ (n : ℕ). bodies.Get n) (λ n. n < 2 ^ 8) 1 body Fits
  get_case = a_case (of_one (number_at w8) bodies.Get) (λ (n : ℕ). bodies.Get n) (number w8) (λ n. n < 2 ^ 8) (made_one (number_at w8) (number w8) (λ n. n < 2 ^ 8) byte_field bodies.Get) 1 (omega arith) body Fits (λ n. refl) (λ n fits. fits)

  set_case : IsCase (of_one (number_at w8) bodies.Set) (λ (n : ℕ). bodies.Set n) (λ n. n < 2 ^ 8) 2 body Fits
  set_case = a_case (of_one (number_at w8) bodies.Set) (λ (n : ℕ). bodies.Set n) (number w8) (λ n. n < 2 ^ 8) (made_one (number_at w8) (number w8) (λ n. n < 2 ^ 8) byte_field bodies.Set) 2 (omega arith) body Fits (λ n. refl) (λ n fits. fits)

  abbrev after : List ℕ → ℕ → Read ℕ → Result (Read WireBody) ImageFault
  after bytes place = body_after the_block_at bytes place

  body_takes : (bytes : List ℕ) → AreBytes bytes → (place : ℕ) (r : Read WireBody) → place ≤ length bytes → body_at ranges bytes place ≡ Ok r → Stands bytes place (body r.value) r.next × Fits r.value
  unfolding body_at
  body_takes bytes all place r le e =
      let t = took (number_at w8) (number w8) (λ n. n < 2 ^ 8) byte_field bytes all place le (after bytes place) r e in
      pick _ (eqb t.0.value 0) _ _ r t.3 (user_case.takes bytes all place t.0 r t.1) (λ e.
      pick _ (eqb t.0.value 1) _ _ r e (get_case.takes bytes all place t.0 r t.1) (λ e.
      pick _ (eqb t.0.value 2) _ _ r e (set_case.takes bytes all place t.0 r t.1) (λ e.
      absurd (let z = e in cc))))

  body_again : (bytes : List ℕ) (place : ℕ) (v : WireBody) (next : ℕ) → Stands bytes place (body v) next → Fits v → body_at ranges bytes place ≡ done v next
  unfolding body_at
  body_again bytes place (bodies.User b) next h fits = user_case.again bytes place b (bodies.User b) next refl h fits (after bytes place) refl
  body_again bytes place (bodies.Get n) next h fits = get_case.again bytes place n (bodies.Get n) next refl h fits (after bytes place) refl
  body_again bytes place (bodies.Set n) next h fits = set_case.again bytes place n (bodies.Set n) next refl h fits (after bytes place) refl

  body_field : IsField (body_at ranges) body Fits
  body_field = record { takes = body_takes; again = body_again }

  override_field : IsField (override_at ranges) overridden (FitsOverride ranges.classes (FitsMethod ranges))
  unfolding override_at
  override_field =
      made_field (override_at ranges) (λ (p : WireMethod × WireBlock). record { method = p.0; block = p.1 }) (λ p. method p.0 ++ block p.1) (λ p. FitsMethod ranges p.0 × FitsHere p.1)
      (made_two (method_at ranges) method (FitsMethod ranges) (method_field ranges known) the_block_at block FitsHere (block_field ranges known (levels_left 1)) (λ method block. record { method = method; block = block }))
      overridden (FitsOverride ranges.classes (FitsMethod ranges)) (λ o. (o.method, o.block)) (λ o. refl) (λ p. refl) (λ p fits. record { method = fits.0; block = fits.1 }) (λ o fits. (fits.method, fits.block))

  abbrev FitsVariables : List WireVariable → Type 0
  FitsVariables = FitsCounted 0 MAX_VARIABLES (FitsVariable ranges.classes)

  variables_field : IsField (variables_at ranges.classes) (counted w8 variable) FitsVariables
  variables_field = counted_field w8 (2 ^ 8) byte_field (variable_at ranges.classes) variable (FitsVariable ranges.classes) (variable_field ranges.classes known.classes) 0 MAX_VARIABLES (omega arith)

  abbrev FitsBodies : ℕ → List WireBody → Type 0
  FitsBodies introduced vs = (length vs ≡ introduced) × All Fits vs

  bodies_field : (introduced : ℕ) → IsField (bodies_at ranges introduced) (flat_map body) (FitsBodies introduced)
  bodies_field introduced = many_field (body_at ranges) body Fits body_field introduced

  abbrev FitsOverrides : List WireOverride → Type 0
  FitsOverrides = FitsCounted 0 MAX_OVERRIDES (FitsOverride ranges.classes (FitsMethod ranges))

  overrides_field : IsField (overrides_at ranges) (counted w16 overridden) FitsOverrides
  overrides_field = counted_field w16 (2 ^ 16) short_field (override_at ranges) overridden (FitsOverride ranges.classes (FitsMethod ranges)) override_field 0 MAX_OVERRIDES (omega arith)

  pub part_field : (introduced : ℕ) → IsField (part_at ranges introduced) part (FitsPart ranges introduced)
  unfolding part_at
  part_field introduced =
      made_field (part_at ranges introduced) (λ (p : List WireVariable × List WireBody × List WireOverride). record { variables = p.0; bodies = p.1; overrides = p.2 })
      (λ p. counted w8 variable p.0 ++ flat_map body p.1 ++ counted w16 overridden p.2) (λ p. FitsVariables p.0 × FitsBodies introduced p.1 × FitsOverrides p.2)
      (made_three (variables_at ranges.classes) (counted w8 variable) FitsVariables variables_field (bodies_at ranges introduced) (flat_map body) (FitsBodies introduced) (bodies_field introduced) (overrides_at ranges) (counted w16 overridden) FitsOverrides overrides_field (λ variables bodies overrides. record { variables = variables; bodies = bodies; overrides = overrides }))
      part (FitsPart ranges introduced) (λ v. (v.variables, v.bodies, v.overrides)) (λ v. refl) (λ p. refl) (λ p fits. record { variables = fits.0; bodies = fits.1; overrides = fits.2 }) (λ v fits. (fits.variables, fits.bodies, fits.overrides))
