use Rattle.std.proofs.Common.{◌≡◌, map}
use Rattle.som_elab.proofs.Completing.{filled, passed}
use Rattle.som_elab.proofs.classes.completed_classes.Given as goal

abbrev pub invariant-loop-draft : goal.invariant-loop-draft
invariant-loop-draft l = l.all ≡ map filled (map passed l.yielded)
