use Rattle.som_machine_laws.proofs.Known.{code_there}
use Rattle.som_machine_laws.proofs.name_laws.names_law.Goals as goal

pub returns : goal.returns
returns c cs main loads b params m = code_there cs main loads b params m
