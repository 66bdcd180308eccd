use Rattle.std.proofs.Common.{flat_map}
use Rattle.std.proofs.lemmas.Result.{err_from_is_err_and}
use Rattle.som_model.specs.Conforming.{bodies_typed, override_typed}
use Rattle.som_verify_forms.specs.Knowing.{all_of}
use Rattle.som_verify_classes.specs.Modules.{class_of}
use Rattle.som_verify_types.proofs.BodySteps.{both_here, both_later}
use Rattle.som_verify_types.proofs.typed_bodies.class_typed.Goals as goal

pub returns-in_err-introduced_typed : goal.returns-in_err-introduced_typed
returns-in_err-introduced_typed c =
    let p = err_from_is_err_and c.from_residual.result c.from_residual.ensures.1 in
    rw (p.1, p.2) (both_here (bodies_typed (all_of c.args.known.now) (class_of c.args.class.now) c.args.class.now.decl.now.face.entries c.args.class.now.decl.now.bodies) (flat_map (override_typed (all_of c.args.known.now) (class_of c.args.class.now)) c.args.class.now.decl.now.overrides) c.in_err-introduced_typed.field-0.0 c.in_err-introduced_typed.ensures)

pub returns : goal.returns
returns c = both_later (bodies_typed (all_of c.args.known.now) (class_of c.args.class.now) c.args.class.now.decl.now.face.entries c.args.class.now.decl.now.bodies) (flat_map (override_typed (all_of c.args.known.now) (class_of c.args.class.now)) c.args.class.now.decl.now.overrides) c.overrides_typed.result c.in_ok-introduced_typed.ensures c.overrides_typed.ensures
