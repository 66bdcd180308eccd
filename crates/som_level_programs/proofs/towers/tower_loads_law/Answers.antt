use Rattle.som_level_programs.proofs.TowersLoad.{client_loads, libraries_load}
use Rattle.som_level_programs.proofs.towers.tower_loads_law.Goals as goal

pub returns-clause-libraries : goal.returns-clause-libraries
returns-clause-libraries c = libraries_load

pub returns-clause-client : goal.returns-clause-client
returns-clause-client c = client_loads
