use Rattle.som_values.specs.Shown.{key_of}
use Rattle.som_interp_objects.proofs.Placed.{written_of}
use Rattle.som_interp_objects.proofs.objects.write_live.Goals as goal

pub returns-in-Ok-clause-written : goal.returns-in-Ok-clause-written
returns-in-Ok-clause-written g c =
    let k = g.R.Runtime.linked c.args.runtime.now in
    written_of k c.args.objects.now c.write.new.self c.args.object.now c.args.of (key_of k.keys c.args.class) c.args.variable c.sure_place-place.result c.args.cell c.requires.of c.sure_place-place.ensures c.in-Ok.ensures.written
