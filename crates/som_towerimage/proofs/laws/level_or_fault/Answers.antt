use Rattle.som_towerimage.proofs.LevelFields.{level_takes, level_again}
use Rattle.som_towerimage.proofs.Decoded.{fault_spells_none}
use Rattle.som_towerimage.proofs.laws.level_or_fault.Goals as goal

pub returns-clause-read : goal.returns-clause-read
returns-clause-read c = λ l bytes all e. level_takes bytes all l e

pub returns-clause-again : goal.returns-clause-again
returns-clause-again c = level_again

pub returns-clause-fault : goal.returns-clause-fault
returns-clause-fault c = fault_spells_none
