use Rattle.som_towerimage.proofs.Decoded.{one_level, one_spelling}
use Rattle.som_towerimage.proofs.laws.bytes_spell_one_level.Goals as goal

pub returns-clause-level : goal.returns-clause-level
returns-clause-level c = one_level

pub returns-clause-spelling : goal.returns-clause-spelling
returns-clause-spelling c = one_spelling
