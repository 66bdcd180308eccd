use Rattle.som_image_encode.proofs.FoundNames.{slot_there}
use Rattle.som_image_encode.proofs.found.number_method.Goals as goal

pub number_method-requires-clause-known : goal.number_method-requires-clause-known
number_method-requires-clause-known c = slot_there c.args.directory.now c.args.method.now c.requires.found
