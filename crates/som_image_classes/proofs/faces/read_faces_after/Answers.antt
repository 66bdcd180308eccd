use Rattle.std.specs.Int.{w16}
use Rattle.som_image_fields.specs.Spelling.{counted, face}
use Rattle.som_image_fields.proofs.Parts.{found_of, only_of}
use Rattle.som_image_classes.specs.ReadClasses.{faces_after_at}
use Rattle.som_image_classes.specs.SpelledClasses.{FitsFacesAfter}
use Rattle.som_image_classes.proofs.ClassFields.{faces_after_field}
use Rattle.som_image_classes.proofs.faces.read_faces_after.Goals as goal

pub returns-clause-found : goal.returns-clause-found
returns-clause-found c =
    found_of (faces_after_at c.args.before c.args.most) (counted w16 face) (FitsFacesAfter c.args.before c.args.most) (faces_after_field c.args.before c.args.most c.requires.few)
    c.args.bytes.now c.as_bytes-all.ensures.bytes c.args.place c.read_counted_faces.result c.requires.place c.read_counted_faces.ensures.exact

pub returns-clause-only : goal.returns-clause-only
returns-clause-only c =
    only_of (faces_after_at c.args.before c.args.most) (counted w16 face) (FitsFacesAfter c.args.before c.args.most) (faces_after_field c.args.before c.args.most c.requires.few)
    c.args.bytes.now c.args.place c.read_counted_faces.result c.read_counted_faces.ensures.exact
