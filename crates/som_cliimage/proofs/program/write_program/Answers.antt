use Rattle.som_cliimage.proofs.Written.{parts_written_of, section_fits_some, main_written}
use Rattle.som_cliimage.proofs.program.write_program.Goals as goal

pub with_parts-requires : goal.with_parts-requires
with_parts-requires c = parts_written_of c.args.wire.now c.requires

pub with_section-requires : goal.with_section-requires
with_section-requires c = section_fits_some c.args.wire.now c.requires

pub write_block-requires : goal.write_block-requires
write_block-requires c = main_written c.args.wire.now c.requires
