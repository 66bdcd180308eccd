use Rattle.std.proofs.Common.{◌≡◌, ◌++◌, drop, map}
use Rattle.som_order.specs.Names.{texts}
use Rattle.som_verify_classes.specs.Modules.{classes_of}
use Rattle.som_verify_classes.specs.Places.{with_kernel}
use Rattle.som_verify_rules.proofs.SharedRows.{row}
use Rattle.som_verify_rules.proofs.shared.rows_of_shared.Given as goal

abbrev pub invariant-loop-place : goal.invariant-loop-place
invariant-loop-place l = map texts l.rows.items ++ map (row (texts l.shared.keys)) (drop l.place (with_kernel (classes_of l.classes))) ≡ map (row (texts l.shared.keys)) (with_kernel (classes_of l.classes))
