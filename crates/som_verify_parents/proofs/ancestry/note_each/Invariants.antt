use Rattle.std.proofs.Common.{◌≡◌, ◌==◌, drop}
use Rattle.som_model_laws.specs.Once.{adds}
use Rattle.som_verify_parents.proofs.ancestry.note_each.Given as goal

abbrev pub invariant-loop-other : goal.invariant-loop-other
invariant-loop-other l = adds ◌==◌ l.list (drop l.other-index l.others) ≡ adds ◌==◌ l.fn.list l.others
