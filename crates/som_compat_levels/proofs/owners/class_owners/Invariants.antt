use Rattle.som_compat_levels.specs.Standing.{classes_of}
use Rattle.som_compat_levels.proofs.Owning.{OwnersTo}
use Rattle.som_compat_levels.proofs.owners.class_owners.Given as goal

abbrev pub invariant-loop-entry : goal.invariant-loop-entry
invariant-loop-entry l = OwnersTo (classes_of l.sorted.classes.now) l.place l.entry-index l.slots
