use Rattle.std.proofs.Common.{◌≡◌, ◌++◌, drop}
use Rattle.som_class_kernel.specs.Entries.{entries_from}
use Rattle.som_class_kernel.proofs.entries.introduced_methods.Given as goal

abbrev pub invariant-loop-place : goal.invariant-loop-place
invariant-loop-place l = l.methods ++ entries_from l.class l.place (drop l.place l.entries) ≡ entries_from l.class 0 l.entries
