use Rattle.std.proofs.Common.{◌≡◌, drop, flat_map, take}
use Rattle.som_model.specs.Rules.{s5}
use Rattle.som_verify_classes.specs.Places.{with_kernel}
use Rattle.som_model.specs.Lists.{first}
use Rattle.som_verify_classes.specs.Modules.{classes_of}
use Rattle.som_verify_rules.proofs.signatures.types_known.Given as goal

abbrev pub invariant-loop-class : goal.invariant-loop-class
invariant-loop-class l = first (flat_map (s5 (take l.number (with_kernel (classes_of l.classes)))) (classes_of (drop l.class-index l.asked))) ≡ first (flat_map (s5 (take l.number (with_kernel (classes_of l.classes)))) (classes_of l.asked))
