use Rattle.som_test_stepping.specs.Beside.{CanGoOn}
use Rattle.som_test_stepping.proofs.units.go_by_units.Given as goal

-- the task can be gone on with after each unit
abbrev pub invariant-loop-unit : goal.invariant-loop-unit
invariant-loop-unit g l = CanGoOn (g.R.Runtime.linked l.kernel) (g.R.ClassKeys.known l.kernel) (g.R.Runtime.program l.kernel) (g.R.Classes.made l.kernel) l.objects l.task
