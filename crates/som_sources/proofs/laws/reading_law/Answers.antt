use Rattle.som_sources.proofs.ReadLaws.{some_readings, one_readings}
use Rattle.som_sources.proofs.laws.reading_law.Goals as goal

pub returns-clause-some : goal.returns-clause-some
returns-clause-some c = some_readings

pub returns-clause-one : goal.returns-clause-one
returns-clause-one c = one_readings
