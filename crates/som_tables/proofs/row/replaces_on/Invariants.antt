use Rattle.std.proofs.Common.{◌≡◌, ℕ, ◌/◌, drop}
use Rattle.som_tables.specs.Rows.{replaced_at}
use Rattle.som_tables.proofs.row.replaces_on.Given as goal

abbrev pub invariant-loop-pair : goal.invariant-loop-pair
invariant-loop-pair g l = (a p : ℕ) → a / 64 ≡ l.number → replaced_at (drop l.pair-index l.replaced) (a, p) ≡ replaced_at l.replaced (a, p)
