use Rattle.std.proofs.Common.{◌≡◌, drop, take}
use Rattle.som_model.specs.Lists.{every}
use Rattle.som_model.specs.Rules.{is_value_type}
use Rattle.som_verify_classes.specs.Modules.{classes_of}
use Rattle.som_verify_classes.specs.Places.{with_kernel}
use Rattle.som_verify_rules.proofs.signatures.are_values.Given as goal

abbrev pub invariant-loop-kind : goal.invariant-loop-kind
invariant-loop-kind l = every (is_value_type (take l.number (with_kernel (classes_of l.classes)))) (drop l.kind-index l.kinds) ≡ every (is_value_type (take l.number (with_kernel (classes_of l.classes)))) l.kinds
