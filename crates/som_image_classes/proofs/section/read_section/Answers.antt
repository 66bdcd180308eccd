use Rattle.std.proofs.Common.{ℕ, List, Result, Ok, Err}
use Rattle.std.specs.Prelude.{IfOk}
use Rattle.som_image_fields.specs.declared.fault.ImageFault.{ImageFault}
use Rattle.som_image_fields.specs.declared.method.Ranges.{Ranges}
use Rattle.som_image_fields.specs.declared.read.Read.{Read}
use Rattle.som_image_fields.specs.declared.selects.WireSelects.{WireSelects}
use Rattle.som_image_fields.specs.Fields.{Stands}
use Rattle.som_image_fields.specs.Fitting.{FitsSelects}
use Rattle.som_image_fields.specs.Spelling.{FitsMethod}
use Rattle.som_image_fields.specs.SyntaxSpelling.{selects}
use Rattle.som_image_classes.specs.NamedClasses.{AreSelectsOf}
use Rattle.som_image_classes.proofs.ClassFields.{selects_known}
use Rattle.som_image_classes.proofs.section.read_section.Goals as goal

known : (ranges : Ranges) (first : ℕ) (bytes : List ℕ) (place : ℕ) (r : Result (Read (List WireSelects)) ImageFault) → IfOk r (λ x. Stands bytes place (selects x.value) x.next × FitsSelects ranges.classes (FitsMethod ranges) first x.value) → IfOk r (λ x. AreSelectsOf ranges x.value)
known ranges first bytes place (Ok x) h = selects_known ranges.classes (FitsMethod ranges) first x.value h.1
known ranges first bytes place (Err fault) h = tt

pub returns-then-version-eq-SELECTS_VERSION-clause-known : goal.returns-then-version-eq-SELECTS_VERSION-clause-known
returns-then-version-eq-SELECTS_VERSION-clause-known c = known c.args.ranges.now c.args.first c.args.bytes.now c.args.place c.read_selects.result c.read_selects.ensures.found
