use Rattle.som_level_compile.proofs.LevelLaws.{one_level, some_level}
use Rattle.som_level_compile.proofs.laws.level_law.Goals as goal

pub returns-clause-some : goal.returns-clause-some
returns-clause-some c = some_level

pub returns-clause-one : goal.returns-clause-one
returns-clause-one c = one_level
