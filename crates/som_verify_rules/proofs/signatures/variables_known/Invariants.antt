use Rattle.std.proofs.Common.{◌≡◌, drop, take, flat_map}
use Rattle.som_model.specs.Lists.{first}
use Rattle.som_verify_classes.specs.Modules.{class_of, classes_of}
use Rattle.som_verify_classes.specs.Places.{with_kernel}
use Rattle.som_verify_classes.specs.Typed.{variable_types}
use Rattle.som_verify_rules.proofs.signatures.variables_known.Given as goal

abbrev pub invariant-loop-variable : goal.invariant-loop-variable
invariant-loop-variable l = first (flat_map (variable_types (take l.number (with_kernel (classes_of l.classes))) (class_of l.class)) (drop l.variable-index l.class.decl.now.variables))
    ≡ first (flat_map (variable_types (take l.number (with_kernel (classes_of l.classes))) (class_of l.class)) l.class.decl.now.variables)
