use Rattle.std.proofs.Common.{◌≡◌, ◌≤◌, length, take}
use Rattle.som_model.specs.Class.{introduced}
use Rattle.som_class_table.proofs.tokens.introduced_count.Given as goal

abbrev pub invariant-loop-entry : goal.invariant-loop-entry
invariant-loop-entry l = record {
  count : l.count ≡ length (introduced (take l.entry-index l.entries));
  few : l.count ≤ l.entry-index;
}
