use Rattle.std.proofs.Common.{drop, flat_map}
use Rattle.std.proofs.lemmas.Result.{err_from_is_err_and}
use Rattle.som_model.specs.Lists.{first}
use Rattle.som_model.specs.Rules.{s4}
use Rattle.som_verify_classes.specs.Modules.{class_of, classes_of}
use Rattle.som_verify_classes.specs.Places.{with_kernel}
use Rattle.som_verify_classes.proofs.Before.{declared_metaclass}
use Rattle.som_verify_classes.proofs.Passes.{all_pass, item_goes_on, item_stops}
use Rattle.som_verify_rules.proofs.metaclasses.metaclasses_descend.Goals as goal

pub own_metaclass_descends-requires-clause-known : goal.own_metaclass_descends-requires-clause-known
own_metaclass_descends-requires-clause-known c = declared_metaclass c.args.classes.now c.loop-place.place c.index-classes-place.result c.requires.stand c.loop-place-test.true c.index-classes-place.is

pub returns-in_err-own_metaclass_descends : goal.returns-in_err-own_metaclass_descends
returns-in_err-own_metaclass_descends c =
    let p = err_from_is_err_and c.from_residual.result c.from_residual.ensures.1 in
    rw (p.1, p.2) (item_stops (s4 (with_kernel (classes_of c.args.classes.now))) class_of c.args.classes.now (first (flat_map (s4 (with_kernel (classes_of c.args.classes.now))) (classes_of (drop c.args.from c.args.classes.now)))) c.loop-place.place c.index-classes-place.result c.in_err-own_metaclass_descends.field-0.0 c.loop-place-test.true c.index-classes-place.is
    (c.in_err-own_metaclass_descends.ensures) c.loop-place.invariant)

pub loop-place-preserved : goal.loop-place-preserved
loop-place-preserved c =
    item_goes_on (s4 (with_kernel (classes_of c.args.classes.now))) class_of c.args.classes.now (first (flat_map (s4 (with_kernel (classes_of c.args.classes.now))) (classes_of (drop c.args.from c.args.classes.now)))) c.loop-place.place c.index-classes-place.result c.loop-place-test.true c.index-classes-place.is
    (c.in_ok-own_metaclass_descends.ensures) c.loop-place.invariant

pub returns : goal.returns
returns c = all_pass (s4 (with_kernel (classes_of c.args.classes.now))) class_of c.args.classes.now (first (flat_map (s4 (with_kernel (classes_of c.args.classes.now))) (classes_of (drop c.args.from c.args.classes.now)))) c.loop-place.place c.loop-place-test.false c.loop-place.invariant
