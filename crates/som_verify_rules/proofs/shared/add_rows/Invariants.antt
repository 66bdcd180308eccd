use Rattle.std.proofs.Common.{◌≡◌, ◌++◌, drop, flat_map}
use Rattle.som_order.specs.Names.{texts}
use Rattle.som_verify_rules.specs.Shared.{row_names}
use Rattle.som_verify_rules.proofs.shared.add_rows.Given as goal

abbrev pub invariant-loop-place : goal.invariant-loop-place
invariant-loop-place l = texts l.names.items ++ flat_map (row_names l.rows) (drop l.place-index l.list) ≡ texts l.fn.names.items ++ flat_map (row_names l.rows) l.list
