use Rattle.std.proofs.Common.{rules, ◌+◌}
use Rattle.som_image_fields.proofs.NumberFields.{long_field}
use Rattle.som_image_fields.proofs.number.read_u32.Goals as goal

pub returns-clause-found : goal.returns-clause-found
returns-clause-found c = long_field.takes c.args.bytes.now c.as_bytes-all.ensures.bytes c.args.place (record { value = c.from_be_bytes.result; next = c.args.place + 4 }) c.requires (search rules)
