use Rattle.som_libimage.proofs.Turned.{parts_fit_some, section_fits_some}
use Rattle.som_libimage.proofs.release.write_release.Goals as goal

pub with_parts-requires : goal.with_parts-requires
with_parts-requires c = parts_fit_some c.args.wire.now c.requires

pub with_section-requires : goal.with_section-requires
with_section-requires c = section_fits_some c.args.wire.now c.requires
