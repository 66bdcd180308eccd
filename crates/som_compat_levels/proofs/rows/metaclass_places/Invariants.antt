use Rattle.som_compat_levels.specs.Standing.{classes_of}
use Rattle.som_compat_levels.proofs.Listing.{MetaclassesTo}
use Rattle.som_compat_levels.proofs.rows.metaclass_places.Given as goal

abbrev pub invariant-loop-class : goal.invariant-loop-class
invariant-loop-class l = MetaclassesTo (classes_of l.classes) l.class-index l.places.items
