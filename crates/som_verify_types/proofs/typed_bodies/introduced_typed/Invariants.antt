use Rattle.std.proofs.Common.{◌≡◌, drop}
use Rattle.som_model.specs.Conforming.{bodies_typed}
use Rattle.som_model.specs.Lists.{first}
use Rattle.som_verify_forms.specs.Knowing.{all_of}
use Rattle.som_verify_classes.specs.Modules.{class_of}
use Rattle.som_verify_types.proofs.typed_bodies.introduced_typed.Given as goal

abbrev pub invariant-loop-entry : goal.invariant-loop-entry
invariant-loop-entry l = first (bodies_typed (all_of l.known) (class_of l.class) (drop l.entry-index l.class.decl.now.face.entries) l.bodies)
    ≡ first (bodies_typed (all_of l.known) (class_of l.class) l.class.decl.now.face.entries l.class.decl.now.bodies)
