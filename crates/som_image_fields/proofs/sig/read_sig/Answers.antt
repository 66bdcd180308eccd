use Rattle.som_image_fields.specs.Spelling.{sig, FitsSig}
use Rattle.som_image_fields.specs.Reading.{sig_at}
use Rattle.som_image_fields.proofs.Parts.{found_of, only_of}
use Rattle.som_image_fields.proofs.TypeFields.{sig_field}
use Rattle.som_image_fields.proofs.sig.read_sig.Goals as goal

pub returns-clause-found : goal.returns-clause-found
returns-clause-found c = found_of (sig_at c.args.classes) sig (FitsSig c.args.classes) (sig_field c.args.classes c.ranges.classes.fits) c.args.bytes.now c.as_bytes-all.ensures.bytes c.args.place c.read_result_and_params.result c.requires c.read_result_and_params.ensures

pub returns-clause-only : goal.returns-clause-only
returns-clause-only c = only_of (sig_at c.args.classes) sig (FitsSig c.args.classes) (sig_field c.args.classes c.ranges.classes.fits) c.args.bytes.now c.args.place c.read_result_and_params.result c.read_result_and_params.ensures
