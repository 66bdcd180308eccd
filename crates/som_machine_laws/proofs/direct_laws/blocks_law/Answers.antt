use Rattle.som_machine_laws.proofs.Worlds.{block_code, direct_program}
use Rattle.som_machine_laws.proofs.direct_laws.blocks_law.Goals as goal

pub returns-clause-code : goal.returns-clause-code
returns-clause-code c cs main loads silent b params m = block_code cs main loads silent b params m

pub returns-clause-program : goal.returns-clause-program
returns-clause-program c cs main loads silent = direct_program cs main loads silent
