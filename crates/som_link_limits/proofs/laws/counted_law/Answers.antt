use Rattle.som_link_limits.proofs.Classes.{program_counts, release_counts}
use Rattle.som_link_limits.proofs.laws.counted_law.Goals as goal

pub returns-clause-library : goal.returns-clause-library
returns-clause-library c = release_counts

pub returns-clause-client : goal.returns-clause-client
returns-clause-client c = program_counts
