use Rattle.std.proofs.Common.{flat_map}
use Rattle.std.proofs.lemmas.Result.{err_from_is_err_and}
use Rattle.som_model.specs.Conforming.{override_typed}
use Rattle.som_model.specs.Lists.{first}
use Rattle.som_verify_forms.specs.Knowing.{all_of}
use Rattle.som_verify_classes.specs.Modules.{class_of}
use Rattle.som_verify_types.proofs.BodySteps.{next_breaks, next_holds}
use Rattle.som_verify_types.proofs.typed_bodies.overrides_typed.Goals as goal

pub returns-in_err-override_typed : goal.returns-in_err-override_typed
returns-in_err-override_typed c =
    let p = err_from_is_err_and c.from_residual.result c.from_residual.ensures.1 in
    rw (p.1, p.2) (next_breaks (override_typed (all_of c.args.known.now) (class_of c.args.class.now)) c.args.class.now.decl.now.overrides c.loop-item.item-index c.item-item.result (rw c.as_slice-item-items.ensures at c.loop-item-test.true) (rw c.as_slice-item-items.ensures at c.item-item.is)
    (first (flat_map (override_typed (all_of c.args.known.now) (class_of c.args.class.now)) c.args.class.now.decl.now.overrides)) c.in_err-override_typed.field-0.0 c.in_err-override_typed.ensures c.loop-item.invariant)

pub loop-item-preserved : goal.loop-item-preserved
loop-item-preserved c =
    next_holds (override_typed (all_of c.args.known.now) (class_of c.args.class.now)) c.args.class.now.decl.now.overrides c.loop-item.item-index c.item-item.result (rw c.as_slice-item-items.ensures at c.loop-item-test.true) (rw c.as_slice-item-items.ensures at c.item-item.is)
    (first (flat_map (override_typed (all_of c.args.known.now) (class_of c.args.class.now)) c.args.class.now.decl.now.overrides)) c.in_ok-override_typed.ensures c.loop-item.invariant
