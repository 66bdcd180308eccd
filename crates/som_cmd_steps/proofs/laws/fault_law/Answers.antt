use Rattle.som_cmd_steps.proofs.FaultLaws.{no_want, no_client_want}
use Rattle.som_cmd_steps.proofs.laws.fault_law.Goals as goal

pub returns-clause-library : goal.returns-clause-library
returns-clause-library c = no_want

pub returns-clause-client : goal.returns-clause-client
returns-clause-client c = no_client_want
