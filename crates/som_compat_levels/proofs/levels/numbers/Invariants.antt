use Rattle.std.proofs.Common.{◌≡◌, ◌<◌, ℕ, length, slice_index_or}
use Rattle.som_compat_levels.proofs.levels.numbers.Given as goal

abbrev pub invariant-loop-number : goal.invariant-loop-number
invariant-loop-number l = record {
  long : length l.list.items ≡ l.number;
  by : (p : ℕ) → p < l.number → slice_index_or l.list.items p 0 ≡ p;
}
