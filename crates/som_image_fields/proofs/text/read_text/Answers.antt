use Rattle.std.proofs.Common.{rules, ◌+◌}
use Rattle.som_image_fields.specs.Reading.{text_at}
use Rattle.som_image_fields.proofs.NumberFields.{text_field}
use Rattle.som_image_fields.proofs.text.read_text.Goals as goal

pub returns-clause-found : goal.returns-clause-found
unfolding text_at
returns-clause-found c = text_field.takes c.args.bytes.now c.as_bytes-all.ensures.bytes c.args.place (record { value = c.in_ok-value.value; next = c.in_ok-len.len.next + c.in_ok-len.len.value }) c.requires (search rules)
