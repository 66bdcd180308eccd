use Rattle.som_test_stepping.specs.Beside.{AreBeside}
use Rattle.som_test_kernel.proofs.beside.take_rounds.Given as goal

-- the tasks are beside each other in each round
abbrev pub invariant-loop-units : goal.invariant-loop-units
invariant-loop-units g l = AreBeside (g.R.Runtime.linked l.kernel) (g.R.ClassKeys.known l.kernel) (g.R.Runtime.program l.kernel) (g.R.Classes.made l.kernel) l.objects l.first l.second
