use Rattle.som_level_programs.proofs.LevelClasses.{base_classes, own_classes}
use Rattle.som_level_programs.proofs.LevelPrograms.{base_differs, other_keys}
use Rattle.som_level_programs.proofs.laws.level_names_law.Goals as goal

pub returns-clause-base : goal.returns-clause-base
returns-clause-base c = base_classes

pub returns-clause-own : goal.returns-clause-own
returns-clause-own c = own_classes

pub returns-clause-keys : goal.returns-clause-keys
returns-clause-keys c = other_keys

pub returns-clause-differ : goal.returns-clause-differ
returns-clause-differ c = base_differs
