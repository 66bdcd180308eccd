use Rattle.som_interp_state.proofs.Objects.{spares_freed}
use Rattle.som_interp_objects.proofs.Ends.{object_freed}
use Rattle.som_interp_objects.proofs.freeing.free.Goals as goal

pub returns-in-Ok-clause-means : goal.returns-in-Ok-clause-means
returns-in-Ok-clause-means c = object_freed c.args.objects.now c.free.new.self c.args.object.now c.requires c.in-Ok.ensures.freed

pub returns-in-Ok-clause-others : goal.returns-in-Ok-clause-others
returns-in-Ok-clause-others c = λ ys other. spares_freed ys c.args.objects.now c.free.new.self c.args.object.now other c.in-Ok.ensures.freed
