use Rattle.som_tasks.proofs.Alone.{alone}
use Rattle.som_tasks.proofs.laws.alone_law.Goals as goal

pub returns : goal.returns
returns g c = λ kernels i kernel at turns. alone g.R.Classes.world g.R.Runtime.program kernels i kernel at turns c.shown_law.ensures
