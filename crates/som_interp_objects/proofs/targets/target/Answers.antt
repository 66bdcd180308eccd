use Rattle.som_interp_objects.proofs.Asked.{whole_in_use, room_in_use, means_target, usable_target}
use Rattle.som_interp_objects.proofs.targets.target.Goals as goal

pub object_target-requires-clause-whole : goal.object_target-requires-clause-whole
object_target-requires-clause-whole g c = whole_in_use (g.R.Runtime.linked c.args.runtime.now) (g.R.Classes.made c.args.runtime.now) c.args.objects.now c.args.reference c.in-Object.object c.in-Object.is c.requires

pub object_target-requires-clause-target : goal.object_target-requires-clause-target
object_target-requires-clause-target g c = room_in_use (g.R.Runtime.linked c.args.runtime.now) (g.R.Classes.made c.args.runtime.now) c.args.objects.now c.args.reference c.in-Object.object c.in-Object.is c.requires

pub returns-in-Object-clause-means : goal.returns-in-Object-clause-means
returns-in-Object-clause-means g c = means_target (g.R.Runtime.linked c.args.runtime.now) (g.R.Classes.made c.args.runtime.now) c.args.objects.now c.args.reference c.in-Object.object c.in-Object.is c.object_target.result c.object_target.ensures

pub returns-in-Object-clause-usable : goal.returns-in-Object-clause-usable
returns-in-Object-clause-usable g c = usable_target (g.R.Runtime.linked c.args.runtime.now) (g.R.Classes.made c.args.runtime.now) c.args.objects.now c.args.reference c.in-Object.object c.in-Object.is c.object_target.result c.object_target.ensures
