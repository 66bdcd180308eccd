use Rattle.std.proofs.lemmas.Result.{err_from_is_err_and}
use Rattle.som_verify_classes.specs.Places.{class_of_place}
use Rattle.som_elab.specs.Contexts.{among_in, classes_in}
use Rattle.som_elab_methods.specs.Texts.{given}
use Rattle.som_elab.proofs.ClassSteps.{override_next, override_stops}
use Rattle.som_elab.proofs.class_bodies.override_blocks.Goals as goal

pub returns-in_err-made : goal.returns-in_err-made
returns-in_err-made c =
    let p = err_from_is_err_and c.from_residual.result c.from_residual.ensures.1 in
    rw (p.1, p.2) (override_stops (among_in c.args.context.now) (given c.args.own.now) (class_of_place (classes_in c.args.context.now) c.args.place) c.args.draft.now.decl.overrides c.loop-replaced.replaced-index c.replaced-item.result
    (rw c.as_slice-replaced-items.ensures at c.loop-replaced-test.true) (rw c.as_slice-replaced-items.ensures at c.replaced-item.is) c.loop-replaced.all c.loop-replaced.invariant c.in_err-made.field-0.0 c.in_err-made.ensures)

pub loop-replaced-preserved : goal.loop-replaced-preserved
loop-replaced-preserved c =
    rw c.in_ok-push.ensures.ok (override_next (among_in c.args.context.now) (given c.args.own.now) (class_of_place (classes_in c.args.context.now) c.args.place) c.args.draft.now.decl.overrides c.loop-replaced.replaced-index c.replaced-item.result
    (rw c.as_slice-replaced-items.ensures at c.loop-replaced-test.true) (rw c.as_slice-replaced-items.ensures at c.replaced-item.is) c.loop-replaced.all c.loop-replaced.invariant c.in_ok-made.made c.in_ok-made.ensures)
