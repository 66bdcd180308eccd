use Rattle.som_image_encode.proofs.TurnedBlocks.{ready_turns}
use Rattle.som_image_encode.proofs.numbered_laws.ready_blocks_turn_back.Goals as goal

pub returns-clause-fits : goal.returns-clause-fits
returns-clause-fits c = λ d b ready. (ready_turns d b ready).fits

pub returns-clause-names : goal.returns-clause-names
returns-clause-names c = λ d b ready. (ready_turns d b ready).names
