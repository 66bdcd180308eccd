use Rattle.std.proofs.Common.{◌≡◌, ◌++◌, drop}
use Rattle.som_compat_levels.specs.Standing.{classes_of}
use Rattle.som_order.specs.Names.{texts}
use Rattle.som_verify_rules.specs.Shared.{all_introduced}
use Rattle.som_flat.proofs.introduced.introduced_names.Given as goal

abbrev pub invariant-loop-class : goal.invariant-loop-class
invariant-loop-class l = texts l.names.items ++ all_introduced (classes_of (drop l.class-index l.classes)) ≡ all_introduced (classes_of l.classes)
