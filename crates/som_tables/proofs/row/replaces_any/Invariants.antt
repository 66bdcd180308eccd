use Rattle.std.proofs.Common.{◌≡◌, ℕ, drop}
use Rattle.som_tables.specs.Rows.{replaced_at}
use Rattle.som_tables.proofs.row.replaces_any.Given as goal

abbrev pub invariant-loop-pair : goal.invariant-loop-pair
invariant-loop-pair g l = (p : ℕ) → replaced_at (drop l.pair-index l.replaced) (l.class, p) ≡ replaced_at l.replaced (l.class, p)
