use Rattle.som_image_encode.proofs.FoundNames.{kind_there}
use Rattle.som_image_encode.proofs.found.number_kind.Goals as goal

pub number_kind-requires-clause-known : goal.number_kind-requires-clause-known
number_kind-requires-clause-known c = kind_there c.args.directory.now c.args.kind.now c.requires.found
