use Rattle.som_rekey_rules.proofs.CountsRekeyed.{class_counted}
use Rattle.som_level_programs.proofs.Counted.{block_by_level, face_by_level, tower_counted, tower_long}
use Rattle.som_level_programs.proofs.counting.counts_law.Goals as goal

pub returns-clause-faces : goal.returns-clause-faces
returns-clause-faces c = face_by_level

pub returns-clause-classes : goal.returns-clause-classes
returns-clause-classes c = class_counted

pub returns-clause-blocks : goal.returns-clause-blocks
returns-clause-blocks c = block_by_level

pub returns-clause-tower : goal.returns-clause-tower
returns-clause-tower c = tower_counted

pub returns-clause-number : goal.returns-clause-number
returns-clause-number c = tower_long
