use Rattle.std.proofs.Common.{◌≡◌, drop, flat_map, Option, None, Err, ap, subst}
use Rattle.std.proofs.lemmas.Result.{err_from_is_err_and}
use Rattle.som_model.specs.Lists.{first}
use Rattle.som_model.specs.Rules.{RuleBreach, s8}
use Rattle.som_verify_classes.specs.Modules.{class_of, classes_of}
use Rattle.som_verify_classes.specs.Places.{with_kernel}
use Rattle.som_verify_classes.specs.Told.{Tells}
use Rattle.som_verify_classes.proofs.DeclaredClasses.{at_of}
use Rattle.som_verify_rules.proofs.Once.{s8_is}
use Rattle.som_verify_classes.proofs.Passes.{all_pass, goes_on, stops}
use Rattle.som_verify_rules.proofs.introduced.once_from.Goals as goal

pub returns-in_err-introduced_once_in : goal.returns-in_err-introduced_once_in
returns-in_err-introduced_once_in c =
    let p = err_from_is_err_and c.from_residual.result c.from_residual.ensures.1 in
    rw (p.1, p.2) (stops (s8 (with_kernel (classes_of c.args.classes.now))) class_of c.args.classes.now (first (flat_map (s8 (with_kernel (classes_of c.args.classes.now))) (classes_of (drop c.args.from c.args.classes.now)))) c.loop-place.place c.in_err-introduced_once_in.field-0.0 c.loop-place-test.true
    (λ class at. subst (λ (o : Option RuleBreach). Tells {A = Unit {0}} o (Err c.in_err-introduced_once_in.field-0.0)) (ap first (s8_is (classes_of c.args.classes.now) c.args.lists.now c.loop-place.place (class_of class) c.requires.lists (at_of c.args.classes.now c.loop-place.place class at))) (c.in_err-introduced_once_in.ensures class at)) c.loop-place.invariant)

pub loop-place-preserved : goal.loop-place-preserved
loop-place-preserved c =
    goes_on (s8 (with_kernel (classes_of c.args.classes.now))) class_of c.args.classes.now (first (flat_map (s8 (with_kernel (classes_of c.args.classes.now))) (classes_of (drop c.args.from c.args.classes.now)))) c.loop-place.place tt c.loop-place-test.true
    (λ class at. subst (λ (o : Option RuleBreach). o ≡ None) (ap first (s8_is (classes_of c.args.classes.now) c.args.lists.now c.loop-place.place (class_of class) c.requires.lists (at_of c.args.classes.now c.loop-place.place class at))) (c.in_ok-introduced_once_in.ensures class at)) c.loop-place.invariant

pub returns : goal.returns
returns c = all_pass (s8 (with_kernel (classes_of c.args.classes.now))) class_of c.args.classes.now (first (flat_map (s8 (with_kernel (classes_of c.args.classes.now))) (classes_of (drop c.args.from c.args.classes.now)))) c.loop-place.place c.loop-place-test.false c.loop-place.invariant
