use Rattle.std.proofs.Common.{◌+◌, ◌-◌, length, ap, arith}
use Rattle.std.proofs.lemmas.Result.{err_from_is_err_and}
use Rattle.som_model.specs.Class.{Class}
use Rattle.som_verify_classes.specs.Modules.{class_of, classes_of}
use Rattle.som_verify_classes.specs.Places.{class_of_place}
use Rattle.som_verify_classes.proofs.DeclaredClasses.{long_map}
use Rattle.som_elab.specs.Contexts.{among_in, classes_in}
use Rattle.som_elab_methods.specs.Texts.{given}
use Rattle.som_elab.proofs.ClassSteps.{class_next, class_stops}
use Rattle.som_elab.proofs.ContextLaws.{own_class, own_fits, parents_fit}
use Rattle.som_elab.proofs.classes.all_bodies.Goals as goal

pub class_bodies-requires-clause-class : goal.class_bodies-requires-clause-class
class_bodies-requires-clause-class c =
    ap (λ (z : Class). z.decl) (own_class c.args.context.now.scope.now.module (classes_of c.args.context.now.known.classes.now) c.args.drafts.now c.requires.stand c.loop-index.index c.index-drafts-index.result
    (length c.args.context.now.known.classes.now - length c.args.drafts.now + 4 + c.loop-index.index) c.loop-index-test.true c.index-drafts-index.is (omega (arith, long_map class_of c.args.context.now.known.classes.now)))

pub class_bodies-requires-clause-fits : goal.class_bodies-requires-clause-fits
class_bodies-requires-clause-fits c =
    let place = length c.args.context.now.known.classes.now - length c.args.drafts.now + 4 + c.loop-index.index in
    own_fits (classes_in c.args.context.now) c.args.context.now.scope.now.module c.args.drafts.now c.loop-index.index c.index-drafts-index.result place c.loop-index-test.true c.index-drafts-index.is c.requires.limits
    (own_class c.args.context.now.scope.now.module (classes_of c.args.context.now.known.classes.now) c.args.drafts.now c.requires.stand c.loop-index.index c.index-drafts-index.result
    place c.loop-index-test.true c.index-drafts-index.is (omega (arith, long_map class_of c.args.context.now.known.classes.now)))

pub class_bodies-requires-clause-parents : goal.class_bodies-requires-clause-parents
class_bodies-requires-clause-parents c =
    parents_fit c.args.context.now.scope.now.module (classes_of c.args.context.now.known.classes.now) c.args.drafts.now c.requires.stand c.loop-index.index c.index-drafts-index.result c.loop-index-test.true c.index-drafts-index.is c.requires.limits

pub returns-in_err-bodies : goal.returns-in_err-bodies
returns-in_err-bodies c =
    let p = err_from_is_err_and c.from_residual.result c.from_residual.ensures.1 in
    let place = length c.args.context.now.known.classes.now - length c.args.drafts.now + 4 + c.loop-index.index in
    rw (p.1, p.2) (class_stops (among_in c.args.context.now) (given c.args.texts.now.all.now) c.args.context.now.scope.now.module c.args.drafts.now c.loop-index.index c.index-drafts-index.result c.loop-index-test.true c.index-drafts-index.is
    c.loop-index.all c.loop-index.invariant (class_of_place (classes_in c.args.context.now) place)
    (own_class c.args.context.now.scope.now.module (classes_of c.args.context.now.known.classes.now) c.args.drafts.now c.requires.stand c.loop-index.index c.index-drafts-index.result
    place c.loop-index-test.true c.index-drafts-index.is (omega (arith, long_map class_of c.args.context.now.known.classes.now)))
    c.in_err-bodies.field-0.0 c.in_err-bodies.ensures)

pub loop-index-preserved : goal.loop-index-preserved
loop-index-preserved c =
    let place = length c.args.context.now.known.classes.now - length c.args.drafts.now + 4 + c.loop-index.index in
    rw c.in_ok-push.ensures.ok (class_next (among_in c.args.context.now) (given c.args.texts.now.all.now) c.args.context.now.scope.now.module c.args.drafts.now c.loop-index.index c.index-drafts-index.result c.loop-index-test.true c.index-drafts-index.is
    c.loop-index.all c.loop-index.invariant (class_of_place (classes_in c.args.context.now) place)
    (own_class c.args.context.now.scope.now.module (classes_of c.args.context.now.known.classes.now) c.args.drafts.now c.requires.stand c.loop-index.index c.index-drafts-index.result
    place c.loop-index-test.true c.index-drafts-index.is (omega (arith, long_map class_of c.args.context.now.known.classes.now)))
    c.in_ok-bodies.bodies c.in_ok-bodies.ensures)
