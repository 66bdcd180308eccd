use Rattle.std.proofs.Common.{◌≡◌, ◌<◌, List, length, Some, sym, subst}
use Rattle.som_objects.specs.declared.cell.Cell.{Cell}
use Rattle.som_values.specs.Shown.{key_of}
use Rattle.som_interp_objects.specs.Statics.{cells_of}
use Rattle.som_interp_objects.proofs.ObjectClasses.{begun_room}
use Rattle.som_interp_objects.proofs.statics.write_class_object.Goals as goal

pub put-requires : goal.put-requires
put-requires g c =
    let k = g.R.Runtime.linked c.args.runtime.now in
    let p = c.sure_static_place-place.result in
    subst (λ i. (cs : List Cell) × (cells_of c.begin.new.statics.items i ≡ Some cs) × p < length cs) (sym c.number.ensures)
    (begun_room k c.args.statics.now.items c.begin.new.statics.items c.args.of (key_of k.keys c.args.class) c.args.variable p c.in_ok-begin.ensures.begun c.requires.whole c.sure_static_place-place.ensures)
