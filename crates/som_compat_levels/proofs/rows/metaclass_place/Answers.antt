use Rattle.std.proofs.Common.{arith}
use Rattle.som_compat_levels.proofs.Keyed.{long_classes}
use Rattle.som_compat_levels.proofs.rows.metaclass_place.Goals as goal

pub returns-in-Some : goal.returns-in-Some
returns-in-Some c = let long = long_classes c.args.classes.now in rw c.in-Some.is (omega (arith, long, c.known_place.ensures.below), c.known_place.ensures.is)
