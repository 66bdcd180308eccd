use Rattle.std.proofs.Common.{is_some, sym, ap, ◌∙◌}
use Rattle.som_interp_objects.specs.Statics.{cells_of}
use Rattle.som_interp_objects.proofs.ObjectClasses.{begun_there}
use Rattle.som_interp_objects.proofs.statics.begin.Goals as goal

pub returns-else-not-has_cells-clause-begun : goal.returns-else-not-has_cells-clause-begun
returns-else-not-has_cells-clause-begun g c =
    begun_there (g.R.Runtime.linked c.args.runtime.now) c.args.of c.args.statics.now.items c.make_room.new.statics.items c.make_room.ensures.alike
    (ap (λ i. is_some (cells_of c.make_room.new.statics.items i)) (sym c.number-number.ensures) ∙ sym c.has_cells.ensures ∙ c.if-not-has_cells.false)
