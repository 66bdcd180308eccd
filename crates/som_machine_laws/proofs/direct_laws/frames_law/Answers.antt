use Rattle.som_machine_laws.proofs.DirectSteps.{next_kept}
use Rattle.som_machine_laws.proofs.direct_laws.frames_law.Goals as goal

pub returns-clause-start : goal.returns-clause-start
returns-clause-start c w main levels program = record { now = program.code 0; waiting = tt }

pub returns-clause-step : goal.returns-clause-step
returns-clause-step c w tests fs gs s t direct d e = (next_kept w direct tests fs.now fs.waiting d.now d.waiting).by s gs t e
