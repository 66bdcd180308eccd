use Rattle.som_image_encode.proofs.FoundNames.{ready_is_found}
use Rattle.som_image_encode.proofs.numbered_block.number_block.Goals as goal

pub number_inner-requires-clause-found : goal.number_inner-requires-clause-found
number_inner-requires-clause-found c = ready_is_found c.args.directory.now c.args.block.now c.requires.ready
