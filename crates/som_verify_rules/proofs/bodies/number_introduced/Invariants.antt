use Rattle.std.proofs.Common.{◌≡◌, ◌≤◌, ◌+◌, drop, length}
use Rattle.som_model.specs.Class.{introduced}
use Rattle.som_verify_rules.proofs.bodies.number_introduced.Given as goal

abbrev pub invariant-loop-entry : goal.invariant-loop-entry
invariant-loop-entry l = record {
  same : l.number + length (introduced (drop l.entry-index l.entries)) ≡ length (introduced l.entries);
  few : l.number ≤ l.entry-index;
}
