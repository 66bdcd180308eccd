use Rattle.std.proofs.Common.{◌≡◌, ◌<◌, ◌≤◌, ◌==◌, ℕ, drop, length, slice_index_or}
use Rattle.som_sema_names.specs.Ranking.{rank_from}
use Rattle.som_sema_names.proofs.ranking.rank_all.Given as goal

abbrev pub invariant-loop-rank : goal.invariant-loop-rank
invariant-loop-rank l = record {
  long : length l.ranks ≡ length l.fn.ranks;
  within : l.rank ≤ length l.list;
  by : (p : ℕ) → p < length l.ranks → slice_index_or l.ranks p 0 ≡ rank_from l.rank (λ x. p == x) (drop l.rank l.list);
}

abbrev pub decreases-loop-rank : goal.decreases-loop-rank
decreases-loop-rank l = l.rank
