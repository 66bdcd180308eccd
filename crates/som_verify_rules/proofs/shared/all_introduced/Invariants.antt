use Rattle.std.proofs.Common.{◌≡◌, ◌++◌, drop}
use Rattle.som_order.specs.Names.{texts}
use Rattle.som_verify_rules.specs.Shared.{all_introduced}
use Rattle.som_verify_classes.specs.Modules.{classes_of}
use Rattle.som_verify_classes.specs.Places.{with_kernel}
use Rattle.som_verify_rules.proofs.shared.all_introduced.Given as goal

abbrev pub invariant-loop-place : goal.invariant-loop-place
invariant-loop-place l = texts l.names.items ++ all_introduced (drop l.place (with_kernel (classes_of l.classes))) ≡ all_introduced (with_kernel (classes_of l.classes))
