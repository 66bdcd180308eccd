use Rattle.som_level_programs.proofs.ChangesApart.{change_apart, change_keeps}
use Rattle.som_level_programs.proofs.laws.level_change_law.Goals as goal

pub returns-clause-apart : goal.returns-clause-apart
returns-clause-apart c = change_apart

pub returns-clause-kernel : goal.returns-clause-kernel
returns-clause-kernel c = change_keeps
