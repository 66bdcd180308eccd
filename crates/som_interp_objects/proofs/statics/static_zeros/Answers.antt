use Rattle.som_interp_objects.proofs.Zero.{static_cells}
use Rattle.som_interp_objects.proofs.statics.static_zeros.Goals as goal

pub returns : goal.returns
returns g c = static_cells (g.R.Runtime.linked c.args.runtime.now) c.args.of c.metaclass_of-meta.result c.zero_cells.result c.metaclass_of-meta.ensures.variables c.zero_cells.ensures
