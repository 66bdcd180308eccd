use Rattle.std.proofs.Common.{◌∙◌}
use Rattle.som_image_fields.specs.Spelling.{method, FitsMethod}
use Rattle.som_image_fields.specs.Reading.{method_at}
use Rattle.som_image_fields.proofs.Parts.{found_in}
use Rattle.som_image_fields.proofs.EntryFields.{method_field}
use Rattle.som_image_fields.proofs.method.read_method.Goals as goal

pub returns-clause-found : goal.returns-clause-found
returns-clause-found c = found_in (method_at c.args.ranges.now) method (FitsMethod c.args.ranges.now) (method_field c.args.ranges.now c.know_ranges.ensures) c.args.bytes.now c.as_bytes-all.ensures.bytes c.args.place c.read_class_and_slot.result c.requires.place c.read_class_and_slot.ensures

pub returns-clause-only : goal.returns-clause-only
returns-clause-only c = λ m next stands fits. c.read_class_and_slot.ensures ∙ (method_field c.args.ranges.now c.know_ranges.ensures).again c.args.bytes.now c.args.place m next stands fits
