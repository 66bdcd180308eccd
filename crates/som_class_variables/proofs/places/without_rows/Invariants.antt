use Rattle.std.proofs.Common.{◌≡◌, ℕ, None, length}
use Rattle.som_tables.specs.Rows.{row_at}
use Rattle.som_class_variables.proofs.places.without_rows.Given as goal

abbrev pub invariant-loop-number : goal.invariant-loop-number
invariant-loop-number l = record { each : length l.table ≡ l._number; none : (n : ℕ) → row_at l.table n ≡ None }
