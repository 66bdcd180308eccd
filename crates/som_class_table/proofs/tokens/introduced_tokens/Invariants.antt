use Rattle.std.proofs.Common.{◌≡◌, ◌<◌, ℕ, Some, length, slice_get}
use Rattle.som_meta.specs.Numbering.{tokens_of}
use Rattle.som_class_table.proofs.tokens.introduced_tokens.Given as goal

abbrev pub invariant-loop-number : goal.invariant-loop-number
invariant-loop-number l = record {
  all : (n : ℕ) → n < l.number → slice_get l.all n ≡ Some (tokens_of l.numbers n);
  each : length l.all ≡ l.number;
}
