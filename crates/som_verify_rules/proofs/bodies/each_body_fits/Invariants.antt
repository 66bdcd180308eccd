use Rattle.std.proofs.Common.{◌≡◌, drop}
use Rattle.som_model.specs.Lists.{first}
use Rattle.som_verify_classes.specs.Modules.{class_of}
use Rattle.som_verify_classes.specs.Fitting.{bodies_from}
use Rattle.som_verify_rules.proofs.bodies.each_body_fits.Given as goal

abbrev pub invariant-loop-entry : goal.invariant-loop-entry
invariant-loop-entry l = first (bodies_from (class_of l.class) (drop l.entry-index l.class.decl.now.face.entries) l.bodies) ≡ first (bodies_from (class_of l.class) l.class.decl.now.face.entries l.class.decl.now.bodies)
