use Rattle.std.proofs.Common.{◌≡◌, ◌+◌, length}
use Rattle.som_model.specs.declared.key.ClassKey.{ClassKey}
use Rattle.som_verify_classes.specs.Plainly.{IsAmong}
use Rattle.som_compat.specs.Marks.{AreAbove, lost_from}
use Rattle.som_compat.specs.Views.{classes_of}
use Rattle.som_compat.proofs.ancestors.first_lost.Given as goal

abbrev pub invariant-loop-rest : goal.invariant-loop-rest
invariant-loop-rest l = record {
  same : (x : ClassKey) → IsAmong (classes_of l.lookup.faces.now) x → AreAbove (classes_of l.lookup.faces.now) x l.marks → lost_from (classes_of l.lookup.faces.now) x l.number l.rest ≡ lost_from (classes_of l.lookup.faces.now) x 0 l.parents;
  few : l.number + length l.rest ≡ length l.parents;
}

abbrev pub decreases-loop-rest : goal.decreases-loop-rest
decreases-loop-rest l = length l.rest
