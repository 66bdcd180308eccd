use Rattle.som_level_laws.proofs.OneLevel.{interface_levels, levels_interface}
use Rattle.som_level_laws.proofs.laws.one_level_law.Goals as goal

pub returns : goal.returns
returns c = λ old new eo en. (levels_interface old new eo en, interface_levels old new eo en)
