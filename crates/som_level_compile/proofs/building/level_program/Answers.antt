use Rattle.som_level_compile.proofs.LevelTrees.{for_library}
use Rattle.som_level_compile.proofs.building.level_program.Goals as goal

pub returns-else-client-clause-answers : goal.returns-else-client-clause-answers
returns-else-client-clause-answers c = for_library c.args.client c.args.base.now c.args.trees.now c.library_program.result c.if-client.false c.library_program.ensures.answers
