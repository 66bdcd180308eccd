use Rattle.std.proofs.Common.{ℕ, take}
use Rattle.som_model.specs.Lists.{Mem}
use Rattle.som_verify_parents.proofs.ancestry.has_all.Given as goal

abbrev pub invariant-loop-class : goal.invariant-loop-class
invariant-loop-class l = (q : ℕ) → Mem q (take l.class-index l.row) → Mem q l.list
