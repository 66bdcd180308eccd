use Rattle.std.proofs.Common.{◌≡◌, length}
use Rattle.som_class_methods.specs.Own.{AreOwn}
use Rattle.som_class_methods.proofs.members.all_tokens.Given as goal

abbrev pub invariant-loop-number : goal.invariant-loop-number
invariant-loop-number l = record {
  own : AreOwn l.numbers l.all;
  each : length l.all ≡ l.number;
}
