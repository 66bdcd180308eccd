use Rattle.std.proofs.Common.{◌≡◌, ℕ, List, length, Result, Ok, Err, sym, subst}
use Rattle.std.specs.Prelude.{IfOk}
use Rattle.som_image_fields.specs.declared.fault.ImageFault.{ImageFault}
use Rattle.som_image_fields.specs.declared.face.WireFace.{WireFace}
use Rattle.som_image_fields.specs.declared.method.Ranges.{Ranges}
use Rattle.som_image_fields.specs.declared.read.Read.{Read}
use Rattle.som_image_fields.specs.Fields.{Gives}
use Rattle.som_image_decode.specs.declared.directory.Directory.{Directory}
use Rattle.som_image_classes.specs.declared.named_part.NamedPart.{NamedPart}
use Rattle.som_image_classes.specs.ReadClasses.{introduced_count}
use Rattle.som_image_classes.specs.NamedReading.{named_part_at, named_parts_at}
use Rattle.som_image_classes.proofs.NamedSteps.{each_length}
use Rattle.som_image_classes.proofs.NamedReading.{parts_are}
use Rattle.som_image_classes.proofs.parts.read_parts.Goals as goal

as_many : (d : Directory) (ranges : Ranges) (faces : List WireFace) (bytes : List ℕ) (place : ℕ) (r : Result (Read (List NamedPart)) ImageFault) → Gives r (named_parts_at d ranges faces bytes place) → IfOk r (λ x. length x.value ≡ length faces)
as_many d ranges faces bytes place (Ok x) given = each_length (λ f. named_part_at d ranges (introduced_count f) bytes) faces place x given
as_many d ranges faces bytes place (Err fault) given = tt

pub returns-clause-exact : goal.returns-clause-exact
returns-clause-exact c =
    subst (λ (x : Result (Read (List NamedPart)) ImageFault). Gives c.read_each_part.result x)
    (sym (parts_are c.args.directory.now c.args.ranges.now c.args.bytes.now c.args.faces.now c.args.place)) c.read_each_part.ensures.exact

pub returns-clause-many : goal.returns-clause-many
returns-clause-many c = as_many c.args.directory.now c.args.ranges.now c.args.faces.now c.args.bytes.now c.args.place c.read_each_part.result c.read_each_part.ensures.exact
