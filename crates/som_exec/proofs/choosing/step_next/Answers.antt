use Rattle.som_exec.proofs.StepCounting.{counted_same}
use Rattle.som_exec.proofs.Joined.{over_stepped}
use Rattle.som_exec.proofs.choosing.step_next.Goals as goal

pub returns-in-None-clause-stepped : goal.returns-in-None-clause-stepped
returns-in-None-clause-stepped g c = over_stepped _ c.in-None.ensures _ _ _

pub returns-in-None-clause-counted : goal.returns-in-None-clause-counted
returns-in-None-clause-counted g c = counted_same _ _
