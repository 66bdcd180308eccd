use Rattle.std.proofs.Common.{ℕ, [], slice_index_or, take}
use Rattle.som_model.specs.Lists.{Mem}
use Rattle.som_verify_parents.proofs.ancestry.stand_below.Given as goal

abbrev pub invariant-loop-other : goal.invariant-loop-other
invariant-loop-other l = (p q : ℕ) → Mem p (take l.other-index l.others) → Mem q (slice_index_or l.rows p []) → Mem q l.list
