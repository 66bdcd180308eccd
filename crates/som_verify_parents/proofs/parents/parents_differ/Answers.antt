use Rattle.std.proofs.Common.{flat_map}
use Rattle.std.proofs.lemmas.Result.{err_from_is_err_and}
use Rattle.som_model.specs.Lists.{first}
use Rattle.som_model.specs.Rules.{s3}
use Rattle.som_verify_classes.specs.Modules.{class_of, classes_of}
use Rattle.som_verify_classes.proofs.Passes.{all_pass, item_goes_on, item_stops}
use Rattle.som_verify_parents.proofs.parents.parents_differ.Goals as goal

pub returns-in_err-own_parents_differ : goal.returns-in_err-own_parents_differ
returns-in_err-own_parents_differ c =
    let p = err_from_is_err_and c.from_residual.result c.from_residual.ensures.1 in
    rw (p.1, p.2) (item_stops (s3) class_of c.args.classes.now (first (flat_map (s3) (classes_of c.args.classes.now))) c.loop-class.class-index c.class-item.result c.in_err-own_parents_differ.field-0.0 c.loop-class-test.true c.class-item.is
    (c.in_err-own_parents_differ.ensures) c.loop-class.invariant)

pub loop-class-preserved : goal.loop-class-preserved
loop-class-preserved c =
    item_goes_on (s3) class_of c.args.classes.now (first (flat_map (s3) (classes_of c.args.classes.now))) c.loop-class.class-index c.class-item.result c.loop-class-test.true c.class-item.is
    (c.in_ok-own_parents_differ.ensures) c.loop-class.invariant

pub returns : goal.returns
returns c = all_pass (s3) class_of c.args.classes.now (first (flat_map (s3) (classes_of c.args.classes.now))) c.loop-class.class-index c.loop-class-test.false c.loop-class.invariant
