use Rattle.std.proofs.Common.{◌<◌, ℕ, slice_index_or}
use Rattle.som_model.specs.declared.class.ClassFace.{ClassFace}
use Rattle.som_compat.specs.Conditions.{IsCounted}
use Rattle.som_compat.proofs.conforming.are_counted.Given as goal

abbrev pub invariant-loop-face : goal.invariant-loop-face
invariant-loop-face l = (k : ℕ) (d : ClassFace) → k < l.face-index → IsCounted (slice_index_or l.faces k d)
