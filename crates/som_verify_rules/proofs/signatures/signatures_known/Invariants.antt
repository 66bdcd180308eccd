use Rattle.std.proofs.Common.{◌≡◌, drop, take, flat_map}
use Rattle.som_model.specs.Lists.{first}
use Rattle.som_verify_classes.specs.Modules.{class_of, classes_of}
use Rattle.som_verify_classes.specs.Places.{with_kernel}
use Rattle.som_verify_classes.specs.Typed.{entry_types}
use Rattle.som_verify_rules.proofs.signatures.signatures_known.Given as goal

abbrev pub invariant-loop-entry : goal.invariant-loop-entry
invariant-loop-entry l = first (flat_map (entry_types (take l.number (with_kernel (classes_of l.classes))) (class_of l.class)) (drop l.entry-index l.class.decl.now.face.entries))
    ≡ first (flat_map (entry_types (take l.number (with_kernel (classes_of l.classes))) (class_of l.class)) l.class.decl.now.face.entries)
