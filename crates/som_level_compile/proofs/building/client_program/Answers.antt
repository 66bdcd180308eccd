use Rattle.som_compile.proofs.FewParameters.{few_parameters}
use Rattle.som_level_compile.proofs.building.client_program.Goals as goal

pub elaborate-requires-clause-few : goal.elaborate-requires-clause-few
elaborate-requires-clause-few c = few_parameters c.args.base.now c.requires.base.each_face
