use Rattle.std.proofs.Common.{suc, ◌-◌, length}
use Rattle.som_interp_objects.specs.Statics.{AreAlike}
use Rattle.som_interp_objects.proofs.statics.make_room.Given as goal

-- the class objects have the same cells
abbrev pub invariant-loop-statics : goal.invariant-loop-statics
invariant-loop-statics l = AreAlike l.initial.statics.items l.statics.items

abbrev pub decreases-loop-statics : goal.decreases-loop-statics
decreases-loop-statics l = suc l.number - length l.statics.items
