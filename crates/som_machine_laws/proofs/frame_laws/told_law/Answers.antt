use Rattle.som_machine_laws.specs.Step.{step}
use Rattle.som_machine_laws.proofs.Task.{told_after}
use Rattle.som_machine_laws.proofs.frame_laws.told_law.Goals as goal

pub returns : goal.returns
returns c w tests fs s add out = told_after (step w tests fs) add out s
