use Rattle.som_image_encode.proofs.FoundNames.{number_there}
use Rattle.som_image_encode.proofs.found.number_class.Goals as goal

pub number_of-requires-clause-known : goal.number_of-requires-clause-known
number_of-requires-clause-known c = number_there c.args.directory.now c.args.class.now c.requires.found
