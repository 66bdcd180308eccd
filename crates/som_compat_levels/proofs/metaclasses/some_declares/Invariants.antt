use Rattle.std.proofs.Common.{◌≡◌, drop, None, slice_index_or}
use Rattle.som_model.specs.Lists.{some}
use Rattle.som_compat.specs.Told.{metaclass_marked}
use Rattle.som_compat_levels.proofs.metaclasses.some_declares.Given as goal

abbrev pub invariant-loop-place : goal.invariant-loop-place
invariant-loop-place l = some (λ a. metaclass_marked (slice_index_or l.metaclasses a None) l.below) (drop l.place-index l.list) ≡ some (λ a. metaclass_marked (slice_index_or l.metaclasses a None) l.below) l.list
