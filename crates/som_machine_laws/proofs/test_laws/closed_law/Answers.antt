use Rattle.som_machine_laws.proofs.Closed.{closed}
use Rattle.som_machine_laws.proofs.test_laws.closed_law.Goals as goal

pub returns : goal.returns
returns c cs main made loads object manager parents meta = closed cs main loads made (record { object = object; manager = manager; parents = parents; meta = meta })
