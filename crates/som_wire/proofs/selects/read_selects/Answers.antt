use Rattle.som_image_fields.specs.Spelling.{FitsMethod}
use Rattle.som_image_fields.proofs.Parts.{found_of, only_of}
use Rattle.som_image_fields.specs.SyntaxSpelling.{selects}
use Rattle.som_image_fields.specs.Fitting.{FitsSelects}
use Rattle.som_wire.specs.Reading.{selects_at}
use Rattle.som_wire.proofs.SelectFields.{selects_field}
use Rattle.som_wire.proofs.selects.read_selects.Goals as goal

pub returns-clause-found : goal.returns-clause-found
returns-clause-found c = found_of (selects_at c.args.ranges.now c.args.first) selects (FitsSelects c.args.ranges.now.classes (FitsMethod c.args.ranges.now) c.args.first) (selects_field c.args.ranges.now c.know_ranges.ensures c.args.first) c.args.bytes.now c.as_bytes-all.ensures.bytes c.args.place c.read_counted_classes.result c.requires.place c.read_counted_classes.ensures.exact

pub returns-clause-only : goal.returns-clause-only
returns-clause-only c = only_of (selects_at c.args.ranges.now c.args.first) selects (FitsSelects c.args.ranges.now.classes (FitsMethod c.args.ranges.now) c.args.first) (selects_field c.args.ranges.now c.know_ranges.ensures c.args.first) c.args.bytes.now c.args.place c.read_counted_classes.result c.read_counted_classes.ensures.exact
