use Rattle.som_cmd_levels.proofs.Stored.{stored_read, stored_within}
use Rattle.som_cmd_levels.proofs.laws.stored_level_law.Goals as goal

pub returns-clause-read : goal.returns-clause-read
returns-clause-read c = stored_read

pub returns-clause-within : goal.returns-clause-within
returns-clause-within c = stored_within
