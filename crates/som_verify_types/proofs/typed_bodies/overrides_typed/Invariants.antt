use Rattle.std.proofs.Common.{◌≡◌, drop, flat_map}
use Rattle.som_model.specs.Conforming.{override_typed}
use Rattle.som_model.specs.Lists.{first}
use Rattle.som_verify_forms.specs.Knowing.{all_of}
use Rattle.som_verify_classes.specs.Modules.{class_of}
use Rattle.som_verify_types.proofs.typed_bodies.overrides_typed.Given as goal

abbrev pub invariant-loop-item : goal.invariant-loop-item
invariant-loop-item l = first (flat_map (override_typed (all_of l.known) (class_of l.class)) (drop l.item-index l.class.decl.now.overrides))
    ≡ first (flat_map (override_typed (all_of l.known) (class_of l.class)) l.class.decl.now.overrides)
