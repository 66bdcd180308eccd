use Rattle.som_image_fields.specs.Spelling.{entry, FitsEntry}
use Rattle.som_image_fields.specs.Reading.{entry_at}
use Rattle.som_image_fields.proofs.Parts.{found_of, only_of}
use Rattle.som_image_fields.proofs.EntryFields.{entry_field}
use Rattle.som_image_fields.proofs.entry.read_entry.Goals as goal

pub returns-clause-found : goal.returns-clause-found
returns-clause-found c = found_of (entry_at c.args.classes) entry (FitsEntry c.args.classes) (entry_field c.args.classes c.ranges.classes.fits) c.args.bytes.now c.as_bytes-all.ensures.bytes c.args.place c.read_named.result c.requires c.read_named.ensures

pub returns-clause-only : goal.returns-clause-only
returns-clause-only c = only_of (entry_at c.args.classes) entry (FitsEntry c.args.classes) (entry_field c.args.classes c.ranges.classes.fits) c.args.bytes.now c.args.place c.read_named.result c.read_named.ensures
