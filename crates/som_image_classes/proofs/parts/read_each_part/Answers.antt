use Rattle.std.proofs.Common.{◌≡◌, ℕ, List, [], length, drop, get_or, Result, Ok, Err, ap, subst, ◌∙◌, arith}
use Rattle.std.proofs.lemmas.List.{length-drop, nil_from_length}
use Rattle.std.proofs.lemmas.Result.{err_from_is_err_and}
use Rattle.som_image_fields.specs.declared.fault.ImageFault.{ImageFault}
use Rattle.som_image_fields.specs.declared.read.Read.{Read}
use Rattle.som_image_fields.specs.declared.face.WireFace.{WireFace}
use Rattle.som_image_fields.specs.declared.method.Ranges.{Ranges}
use Rattle.som_image_fields.specs.Fields.{Gives}
use Rattle.som_image_decode.specs.declared.directory.Directory.{Directory}
use Rattle.som_image_classes.specs.declared.named_part.NamedPart.{NamedPart}
use Rattle.som_image_classes.specs.NamedReading.{named_part_at}
use Rattle.som_image_classes.specs.ReadClasses.{introduced_count}
use Rattle.som_image_classes.proofs.EachFields.{goes_on, ends, is_done}
use Rattle.som_image_classes.proofs.parts.read_each_part.Goals as goal

abbrev one_of : Directory → Ranges → List ℕ → WireFace → ℕ → Result (Read NamedPart) ImageFault
one_of d ranges bytes f place = named_part_at d ranges (introduced_count f) bytes place

-- what was read of the face at a place
read_at : (d : Directory) (faces items : List WireFace) (bytes : List ℕ) (ranges : Ranges) (face : WireFace) (n i place : ℕ) (r : Result (Read NamedPart) ImageFault) → items ≡ faces → n ≡ introduced_count face → face ≡ get_or items i face → Gives r (named_part_at d ranges n bytes place) → Gives r (one_of d ranges bytes (get_or faces i face) place)
read_at d faces items bytes ranges face n i place r slice count is given =
    subst (λ (x : Result (Read NamedPart) ImageFault). Gives r x) (ap (λ (k : ℕ). named_part_at d ranges k bytes place) count ∙ ap (λ (f : WireFace). one_of d ranges bytes f place) (is ∙ ap (λ (l : List WireFace). get_or l i face) slice)) given

pub returns-in_err-part-clause-exact : goal.returns-in_err-part-clause-exact
returns-in_err-part-clause-exact c =
    let p = err_from_is_err_and c.from_residual.result c.from_residual.ensures.1 in
    let d = c.args.directory.now in
    let faces = c.args.faces.now in
    let ranges = c.args.ranges.now in
    let h = read_at d faces c.as_slice-face-items.result.now c.args.bytes.now ranges c.face-item.result c.introduced_count.result c.loop-face.face-index c.loop-face.next (Err c.in_err-part.field-0.0) c.as_slice-face-items.ensures c.introduced_count.ensures c.face-item.is c.in_err-part.ensures.exact in
    rw (p.1, p.2) (ends (one_of d ranges c.args.bytes.now) faces c.args.place c.loop-face.value c.loop-face.face-index c.loop-face.next c.face-item.result c.in_err-part.field-0.0 (rw (← c.as_slice-face-items.ensures) c.loop-face-test.true) h c.loop-face.invariant.reads)

pub loop-face-preserved : goal.loop-face-preserved
loop-face-preserved c =
    let d = c.args.directory.now in
    let faces = c.args.faces.now in
    let ranges = c.args.ranges.now in
    let h = read_at d faces c.as_slice-face-items.result.now c.args.bytes.now ranges c.face-item.result c.introduced_count.result c.loop-face.face-index c.loop-face.next (Ok c.in_ok-part.part) c.as_slice-face-items.ensures c.introduced_count.ensures c.face-item.is c.in_ok-part.ensures.exact in
    record {
      reads = rw (c.in_ok-push.ensures.ok) (goes_on (one_of d ranges c.args.bytes.now) faces c.args.place c.loop-face.value c.loop-face.face-index c.loop-face.next c.face-item.result c.in_ok-part.part (rw (← c.as_slice-face-items.ensures) c.loop-face-test.true) h c.loop-face.invariant.reads);
      within = c.in_ok-part.ensures.next;
    }

pub returns-clause-exact : goal.returns-clause-exact
returns-clause-exact c =
    let faces = c.args.faces.now in
    let none : drop c.loop-face.face-index faces ≡ [] = nil_from_length (drop c.loop-face.face-index faces) (omega (arith, ap (length {A = WireFace}) c.as_slice-face-items.ensures, length-drop c.loop-face.face-index faces)) in
    is_done (one_of c.args.directory.now c.args.ranges.now c.args.bytes.now) faces c.args.place c.loop-face.value c.loop-face.face-index c.loop-face.next none c.loop-face.invariant.reads
