use Rattle.std.proofs.Common.{◌≡◌, map, length}
use Rattle.som_model.specs.Same.{same_list, same_type}
use Rattle.som_compat.specs.KernelSigs.{type_of}
use Rattle.som_compat.proofs.kernel.are_one_types.Given as goal

abbrev pub invariant-loop-kinds : goal.invariant-loop-kinds
invariant-loop-kinds l = same_list same_type (map type_of l.kinds) (map type_of l.others) ≡ same_list same_type (map type_of l.a) (map type_of l.b)

abbrev pub decreases-loop-kinds : goal.decreases-loop-kinds
decreases-loop-kinds l = length l.kinds
