use Rattle.som_tasks.proofs.Beginning.{SoFar}
use Rattle.som_tasks.proofs.starting.start_clients.Given as goal

-- the kernels so far have clients
abbrev pub invariant-loop-number : goal.invariant-loop-number
invariant-loop-number g l = SoFar g.R.Classes.world g.R.Runtime.linked g.R.ClassKeys.known g.R.Runtime.program g.R.Classes.made l.kernels l.number l.clients.items
