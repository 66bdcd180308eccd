use Rattle.std.proofs.Common.{◌≡◌, length}
use Rattle.som_class_methods.specs.Owners.{AreOwned}
use Rattle.som_class_methods.proofs.owners.all_tokens.Given as goal

abbrev pub invariant-loop-number : goal.invariant-loop-number
invariant-loop-number l = record {
  owned : AreOwned l.numbers l.tokens;
  each : length l.tokens ≡ l.number;
}
