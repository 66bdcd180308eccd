use Rattle.som_release_laws.proofs.Along.{kept_along, kept_itself}
use Rattle.som_level_laws.specs.Levels.{level_classes}
use Rattle.som_level_laws.proofs.Along.{levels_to_last}
use Rattle.som_level_laws.proofs.laws.level_along_law.Goals as goal

pub returns-clause-itself : goal.returns-clause-itself
returns-clause-itself c = λ is f. kept_itself (level_classes is) f

pub returns-clause-along : goal.returns-clause-along
returns-clause-along c = λ olds mids news. kept_along (level_classes olds) (level_classes mids) (level_classes news)

pub returns-clause-list : goal.returns-clause-list
returns-clause-list c = levels_to_last
