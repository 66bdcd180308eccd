use Rattle.std.proofs.Common.{◌≡◌, drop, flat_map}
use Rattle.som_model.specs.Rules.{s4}
use Rattle.som_verify_classes.specs.Places.{with_kernel}
use Rattle.som_model.specs.Lists.{first}
use Rattle.som_verify_classes.specs.Modules.{classes_of}
use Rattle.som_verify_rules.proofs.metaclasses.metaclasses_descend.Given as goal

abbrev pub invariant-loop-place : goal.invariant-loop-place
invariant-loop-place l = first (flat_map (s4 (with_kernel (classes_of l.classes))) (classes_of (drop l.place l.classes))) ≡ first (flat_map (s4 (with_kernel (classes_of l.classes))) (classes_of (drop l.from l.classes)))
