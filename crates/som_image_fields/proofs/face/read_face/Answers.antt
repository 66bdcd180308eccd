use Rattle.som_image_fields.specs.Spelling.{face, FitsFace}
use Rattle.som_image_fields.specs.Reading.{face_at}
use Rattle.som_image_fields.proofs.Parts.{found_of, only_of}
use Rattle.som_image_fields.proofs.FaceFields.{face_field}
use Rattle.som_image_fields.proofs.face.read_face.Goals as goal

pub returns-clause-found : goal.returns-clause-found
returns-clause-found c = found_of (face_at c.args.classes) face (FitsFace c.args.classes) (face_field c.args.classes c.ranges.classes.fits) c.args.bytes.now c.as_bytes-all.ensures.bytes c.args.place c.read_fields.result c.requires c.read_fields.ensures

pub returns-clause-only : goal.returns-clause-only
returns-clause-only c = only_of (face_at c.args.classes) face (FitsFace c.args.classes) (face_field c.args.classes c.ranges.classes.fits) c.args.bytes.now c.args.place c.read_fields.result c.read_fields.ensures
