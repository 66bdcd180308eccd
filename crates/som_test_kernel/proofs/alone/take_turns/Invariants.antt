use Rattle.som_test_stepping.specs.Beside.{CanGoOn}
use Rattle.som_test_kernel.proofs.alone.take_turns.Given as goal

-- the task can be gone on with in each turn
abbrev pub invariant-loop-units : goal.invariant-loop-units
invariant-loop-units g l = CanGoOn (g.R.Runtime.linked l.kernel) (g.R.ClassKeys.known l.kernel) (g.R.Runtime.program l.kernel) (g.R.Classes.made l.kernel) l.objects l.task
