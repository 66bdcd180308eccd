use Rattle.std.proofs.Common.{drop, flat_map}
use Rattle.std.proofs.lemmas.Result.{err_from_is_err_and}
use Rattle.som_model.specs.Conforming.{class_typed}
use Rattle.som_model.specs.Lists.{first}
use Rattle.som_verify_forms.specs.Knowing.{all_of}
use Rattle.som_verify_classes.specs.Modules.{class_of, classes_of}
use Rattle.som_verify_types.proofs.BodySteps.{declared_sigs, declared_stands}
use Rattle.som_verify_classes.proofs.Passes.{all_pass, item_goes_on, item_stops}
use Rattle.som_verify_types.proofs.typed_bodies.bodies_typed.Goals as goal

pub class_typed-requires-clause-class : goal.class_typed-requires-clause-class
class_typed-requires-clause-class c = declared_stands c.args.known.now.classes.now c.loop-place.place c.index-classes-place.result c.loop-place-test.true c.index-classes-place.is

pub class_typed-requires-clause-signatures : goal.class_typed-requires-clause-signatures
class_typed-requires-clause-signatures c = declared_sigs (all_of c.args.known.now) c.args.known.now.classes.now c.loop-place.place c.index-classes-place.result c.loop-place-test.true c.index-classes-place.is c.requires.signatures

pub returns-in_err-class_typed : goal.returns-in_err-class_typed
returns-in_err-class_typed c =
    let p = err_from_is_err_and c.from_residual.result c.from_residual.ensures.1 in
    rw (p.1, p.2) (item_stops (class_typed (all_of c.args.known.now)) class_of c.args.known.now.classes.now (first (flat_map (class_typed (all_of c.args.known.now)) (classes_of (drop c.args.from c.args.known.now.classes.now)))) c.loop-place.place c.index-classes-place.result c.in_err-class_typed.field-0.0 c.loop-place-test.true c.index-classes-place.is
    (c.in_err-class_typed.ensures) c.loop-place.invariant)

pub loop-place-preserved : goal.loop-place-preserved
loop-place-preserved c =
    item_goes_on (class_typed (all_of c.args.known.now)) class_of c.args.known.now.classes.now (first (flat_map (class_typed (all_of c.args.known.now)) (classes_of (drop c.args.from c.args.known.now.classes.now)))) c.loop-place.place c.index-classes-place.result c.loop-place-test.true c.index-classes-place.is
    (c.in_ok-class_typed.ensures) c.loop-place.invariant

pub returns : goal.returns
returns c = all_pass (class_typed (all_of c.args.known.now)) class_of c.args.known.now.classes.now (first (flat_map (class_typed (all_of c.args.known.now)) (classes_of (drop c.args.from c.args.known.now.classes.now)))) c.loop-place.place c.loop-place-test.false c.loop-place.invariant
