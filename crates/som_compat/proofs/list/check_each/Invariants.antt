use Rattle.std.proofs.Common.{◌≡◌, ◌≤◌, ◌+◌, length}
use Rattle.som_model.specs.declared.program.Interface.{Interface}
use Rattle.som_model.specs.Lists.{Mem, first}
use Rattle.som_model.specs.Compatible.{list_breaks}
use Rattle.som_compat.specs.Conditions.{Conforms}
use Rattle.som_compat.proofs.list.check_each.Given as goal

abbrev pub invariant-loop-rest : goal.invariant-loop-rest
invariant-loop-rest l = record {
  same : first (list_breaks l.number l.rest) ≡ first (list_breaks 1 l.list);
  all : (i : Interface) → Mem i l.rest → Conforms i;
  number : l.number + length l.rest ≤ 1 + length l.list;
}

abbrev pub decreases-loop-rest : goal.decreases-loop-rest
decreases-loop-rest l = length l.rest
