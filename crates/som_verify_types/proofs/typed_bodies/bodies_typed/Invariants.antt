use Rattle.std.proofs.Common.{◌≡◌, drop, flat_map}
use Rattle.som_model.specs.Conforming.{class_typed}
use Rattle.som_verify_forms.specs.Knowing.{all_of}
use Rattle.som_model.specs.Lists.{first}
use Rattle.som_verify_classes.specs.Modules.{classes_of}
use Rattle.som_verify_types.proofs.typed_bodies.bodies_typed.Given as goal

abbrev pub invariant-loop-place : goal.invariant-loop-place
invariant-loop-place l = first (flat_map (class_typed (all_of l.known)) (classes_of (drop l.place l.known.classes.now))) ≡ first (flat_map (class_typed (all_of l.known)) (classes_of (drop l.from l.known.classes.now)))
