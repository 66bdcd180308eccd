use Rattle.std.proofs.Common.{◌≡◌, ◌<◌, ℕ, Some, length, slice_get}
use Rattle.som_model.specs.Class.{Class}
use Rattle.som_class_kernel.specs.Entries.{entries_from}
use Rattle.som_class_kernel.proofs.entries.methods_of.Given as goal

abbrev pub invariant-loop-number : goal.invariant-loop-number
invariant-loop-number l = record {
  each : length l.all ≡ l.number;
  all : (n : ℕ) (c : Class) → n < l.number → slice_get l.classes.classes n ≡ Some c → slice_get l.all n ≡ Some (entries_from c.key 0 c.decl.face.entries);
}
