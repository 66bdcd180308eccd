use Rattle.som_interp_objects.proofs.Zero.{are_new}
use Rattle.som_interp_objects.proofs.zeros.zero_cells.Goals as goal

pub returns : goal.returns
returns g c = are_new (g.R.Runtime.linked c.args.runtime.now) c.args.class c.new_cells.result c.new_cells.ensures
