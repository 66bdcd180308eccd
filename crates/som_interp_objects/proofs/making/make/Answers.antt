use Rattle.som_interp_state.proofs.Objects.{spares_made}
use Rattle.som_interp_objects.proofs.Nexts.{is_next}
use Rattle.som_interp_objects.proofs.making.make.Goals as goal

pub returns-in-Ok-clause-next : goal.returns-in-Ok-clause-next
returns-in-Ok-clause-next g c =
    is_next (g.R.Runtime.linked c.args.runtime.now) (g.R.Classes.made c.args.runtime.now) c.args.class c.args.target c.args.serials.now c.args.objects.now c.make.new.self c.in-Ok.object c.in_ok-cells.cells
    c.requires.class c.requires.made c.requires.target c.in_ok-cells.ensures c.in-Ok.ensures.made c.in-Ok.ensures.known

pub returns-in-Ok-clause-others : goal.returns-in-Ok-clause-others
returns-in-Ok-clause-others g c = λ ys serials. spares_made ys c.args.objects.now c.make.new.self c.in-Ok.object c.args.class c.in_ok-cells.cells serials c.in-Ok.ensures.made
