use Rattle.som_compat_levels.specs.Standing.{classes_of}
use Rattle.som_compat_levels.specs.Owners.{AreOwners}
use Rattle.som_compat_levels.proofs.owners.all_owners.Given as goal

abbrev pub invariant-loop-place : goal.invariant-loop-place
invariant-loop-place l = AreOwners (classes_of l.sorted.classes.now) l.place l.all.items
