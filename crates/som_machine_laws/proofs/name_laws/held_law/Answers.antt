use Rattle.som_machine_laws.proofs.Blocks.{held_block, world_block}
use Rattle.som_machine_laws.proofs.name_laws.held_law.Goals as goal

pub returns-clause-declared : goal.returns-clause-declared
returns-clause-declared c cs main k r b e = held_block cs main r b k e

pub returns-clause-world : goal.returns-clause-world
returns-clause-world c cs main k r b e = world_block cs main r b k e
