use Rattle.som_interp_objects.proofs.Asked.{class_made}
use Rattle.som_interp_objects.proofs.classes.class_of.Goals as goal

pub returns-clause-made : goal.returns-clause-made
returns-clause-made g c =
    class_made (g.R.Classes.world c.args.runtime.now) (g.R.Classes.keys c.args.runtime.now) (g.R.Runtime.linked c.args.runtime.now) (g.R.Classes.made c.args.runtime.now) c.args.objects.now c.args.reference c.class_of.result
    c.know.ensures.agree.linked_numbers c.know.ensures.closed c.requires c.class_of.ensures.means
