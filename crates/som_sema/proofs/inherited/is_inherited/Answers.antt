use Rattle.std.proofs.Common.{[], slice_index_or}
use Rattle.som_verify_classes.specs.Modules.{classes_of}
use Rattle.som_verify_classes.specs.Places.{with_kernel}
use Rattle.som_sema.proofs.Inheriting.{other_place}
use Rattle.som_sema.proofs.inherited.is_inherited.Goals as goal

pub introducer_place-requires : goal.introducer_place-requires
introducer_place-requires c = (with_kernel (classes_of c.args.classes.now), (slice_index_or c.args.ancestors.now.lists.items c.args.place [], c.requires.known))

pub returns : goal.returns
returns c = other_place (classes_of c.args.classes.now) c.args.ancestors.now c.args.place c.args.above.now c.requires c.args.name.now c.introducer_place.result (c.introducer_place.ensures _ _ c.requires.known)
