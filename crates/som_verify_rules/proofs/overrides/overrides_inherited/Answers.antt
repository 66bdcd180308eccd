use Rattle.std.proofs.Common.{◌≡◌, drop, flat_map, None, Err, subst, arith}
use Rattle.std.proofs.lemmas.Result.{err_from_is_err_and}
use Rattle.som_model.specs.Lists.{first}
use Rattle.som_model.specs.Rules.{s10}
use Rattle.som_model.specs.declared.key.ClassKey.{ClassKey}
use Rattle.som_verify_classes.specs.Inherited.{replaced_from}
use Rattle.som_verify_classes.specs.Modules.{class_of, classes_of}
use Rattle.som_verify_classes.specs.Places.{with_kernel}
use Rattle.som_verify_classes.specs.Told.{Tells}
use Rattle.som_verify_classes.proofs.DeclaredClasses.{item_at, known_number}
use Rattle.som_verify_classes.proofs.Before.{declared_parents}
use Rattle.som_verify_rules.proofs.Once.{all_at}
use Rattle.som_verify_classes.proofs.Passes.{all_pass, item_goes_on, item_stops}
use Rattle.som_verify_rules.proofs.overrides.overrides_inherited.Goals as goal

pub own_overrides_inherited-requires-clause-place : goal.own_overrides_inherited-requires-clause-place
own_overrides_inherited-requires-clause-place c = omega (arith, c.loop-place-test.true, known_number c.args.classes.now)

pub own_overrides_inherited-requires-clause-parents : goal.own_overrides_inherited-requires-clause-parents
own_overrides_inherited-requires-clause-parents c k m = declared_parents c.args.classes.now c.loop-place.place c.index-classes-place.result c.requires.stand c.loop-place-test.true c.index-classes-place.is k m

pub returns-in_err-own_overrides_inherited : goal.returns-in_err-own_overrides_inherited
returns-in_err-own_overrides_inherited c =
    let p = err_from_is_err_and c.from_residual.result c.from_residual.ensures.1 in
    rw (p.1, p.2) (item_stops (s10 (with_kernel (classes_of c.args.classes.now))) class_of c.args.classes.now (first (flat_map (s10 (with_kernel (classes_of c.args.classes.now))) (classes_of (drop c.args.from c.args.classes.now)))) c.loop-place.place c.index-classes-place.result c.in_err-own_overrides_inherited.field-0.0 c.loop-place-test.true c.index-classes-place.is
    (subst (λ (k : ClassKey). Tells {A = Unit {0}} (first (replaced_from (with_kernel (classes_of c.args.classes.now)) k (class_of c.index-classes-place.result))) (Err c.in_err-own_overrides_inherited.field-0.0))
    (all_at (classes_of c.args.classes.now) c.loop-place.place (class_of c.index-classes-place.result) (item_at c.args.classes.now c.loop-place.place c.index-classes-place.result c.loop-place-test.true c.index-classes-place.is)).1 c.in_err-own_overrides_inherited.ensures) c.loop-place.invariant)

pub loop-place-preserved : goal.loop-place-preserved
loop-place-preserved c =
    item_goes_on (s10 (with_kernel (classes_of c.args.classes.now))) class_of c.args.classes.now (first (flat_map (s10 (with_kernel (classes_of c.args.classes.now))) (classes_of (drop c.args.from c.args.classes.now)))) c.loop-place.place c.index-classes-place.result c.loop-place-test.true c.index-classes-place.is
    (subst (λ (k : ClassKey). first (replaced_from (with_kernel (classes_of c.args.classes.now)) k (class_of c.index-classes-place.result)) ≡ None)
    (all_at (classes_of c.args.classes.now) c.loop-place.place (class_of c.index-classes-place.result) (item_at c.args.classes.now c.loop-place.place c.index-classes-place.result c.loop-place-test.true c.index-classes-place.is)).1 c.in_ok-own_overrides_inherited.ensures) c.loop-place.invariant

pub returns : goal.returns
returns c = all_pass (s10 (with_kernel (classes_of c.args.classes.now))) class_of c.args.classes.now (first (flat_map (s10 (with_kernel (classes_of c.args.classes.now))) (classes_of (drop c.args.from c.args.classes.now)))) c.loop-place.place c.loop-place-test.false c.loop-place.invariant
