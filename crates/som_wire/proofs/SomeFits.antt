-- What fits certain classes and entries can stand somewhere.
use Rattle.std.proofs.Common.{ℕ, ◌<◌, ◌≤◌, ◌^◌, false, arith}
use Rattle.std.proofs.lemmas.List.Elements.{All-weaker}
use Rattle.som_image_fields.specs.declared.method.WireMethod.{WireMethod}
use Rattle.som_image_fields.specs.declared.method.Ranges.{Ranges}
use Rattle.som_image_fields.specs.Spelling.{FitsMethod, FitsSomeRanges, AreShort, most_classes}
use Rattle.som_image_fields.specs.declared.syntax.WireBlock.{WireBlock}
use Rattle.som_image_fields.specs.declared.syntax.WireVariable.{WireVariable}
use Rattle.som_image_fields.specs.declared.syntax.WireBody.{WireBody}
use Rattle.som_image_fields.specs.declared.syntax.WireBody.TheVariants as bodies
use Rattle.som_image_fields.specs.declared.syntax.WireOverride.{WireOverride}
use Rattle.som_image_fields.specs.declared.syntax.WirePart.{WirePart}
use Rattle.som_image_fields.specs.Fitting.{FitsBlock, levels_left, FitsSomeBlock, FitsVariable, FitsBody, FitsOverride, FitsPart, FitsSomePart}
use Rattle.som_wire.proofs.Fits.{kind_more, block_more}

module _ (ranges : Ranges) (known : AreShort ranges) where
  fewer : ranges.classes ≤ most_classes
  fewer = omega (arith, known.classes)

  method_some : (m : WireMethod) → FitsMethod ranges m → FitsSomeRanges m
  method_some m fits = record { class = omega (arith, known.classes, fits.class); slot = omega (arith, known.entries m.class, fits.slot) }

  pub block_some : (left : ℕ) → left ≤ levels_left 1 → (b : WireBlock) → FitsBlock left ranges.classes (FitsMethod ranges) b → FitsSomeBlock b
  block_some left few b fits = block_more ranges.classes most_classes fewer (FitsMethod ranges) FitsSomeRanges method_some left (levels_left 1) few b fits

  variable_some : (v : WireVariable) → FitsVariable ranges.classes v → FitsVariable most_classes v
  variable_some v fits = record { name = fits.name; kind = kind_more ranges.classes most_classes false false fewer (λ p. p) v.kind fits.kind }

  body_some : (b : WireBody) → FitsBody ranges.classes (FitsMethod ranges) b → FitsBody most_classes FitsSomeRanges b
  body_some (bodies.User b) fits = block_some (levels_left 1) (omega arith) b fits
  body_some (bodies.Get n) fits = fits
  body_some (bodies.Set n) fits = fits

  override_some : (o : WireOverride) → FitsOverride ranges.classes (FitsMethod ranges) o → FitsOverride most_classes FitsSomeRanges o
  override_some o fits = record { method = method_some o.method fits.method; block = block_some (levels_left 1) (omega arith) o.block fits.block }

  pub part_some : (introduced : ℕ) → introduced < 2 ^ 16 → (p : WirePart) → FitsPart ranges introduced p → FitsSomePart p
  part_some introduced few p fits = record {
    variables = (fits.variables.0, fits.variables.1, All-weaker (FitsVariable ranges.classes) (FitsVariable most_classes) variable_some p.variables fits.variables.2);
    bodies = (omega (arith, fits.bodies.0, few), All-weaker (FitsBody ranges.classes (FitsMethod ranges)) (FitsBody most_classes FitsSomeRanges) body_some p.bodies fits.bodies.1);
    overrides = (fits.overrides.0, fits.overrides.1, All-weaker (FitsOverride ranges.classes (FitsMethod ranges)) (FitsOverride most_classes FitsSomeRanges) override_some p.overrides fits.overrides.2);
  }
