use Rattle.std.proofs.Common.{◌∙◌}
use Rattle.som_image_fields.specs.Spelling.{kind, FitsKind}
use Rattle.som_image_fields.specs.Reading.{kind_at}
use Rattle.som_image_fields.proofs.Parts.{found_in}
use Rattle.som_image_fields.proofs.TypeFields.{kind_field}
use Rattle.som_image_fields.proofs.kind.read_type.Goals as goal

pub returns-clause-found : goal.returns-clause-found
returns-clause-found c = found_in (kind_at c.args.classes c.args.is_result) kind (FitsKind c.args.classes c.args.is_result) (kind_field c.args.classes c.args.is_result c.ranges.classes.fits) c.args.bytes.now c.as_bytes-all.ensures.bytes c.args.place c.read_tagged.result c.requires c.read_tagged.ensures

pub returns-clause-only : goal.returns-clause-only
returns-clause-only c = λ k next stands fits. c.read_tagged.ensures ∙ (kind_field c.args.classes c.args.is_result c.ranges.classes.fits).again c.args.bytes.now c.args.place k next stands fits
