use Rattle.std.proofs.Common.{List, map, refl}
use Rattle.som_order.specs.Names.{texts}
use Rattle.som_verify_classes.specs.Modules.{classes_of}
use Rattle.som_verify_classes.specs.Places.{key_at, with_kernel}
use Rattle.som_sema_decls.specs.Finished.{select_of}
use Rattle.som_sema_decls.specs.Selecting.{choice_of}
use Rattle.som_sema_decls.specs.declared.selected.Choice.{Choice}
use Rattle.som_sema_scope.proofs.Going.{next_value, rest_end}
use Rattle.som_sema_decls.proofs.selected.each_select.Goals as goal

pub loop-choice-preserved : goal.loop-choice-preserved
loop-choice-preserved c =
    let f = select_of (with_kernel (classes_of c.args.classes.now)) (key_at (with_kernel (classes_of c.args.classes.now)) c.args.place) (texts c.args.parents.now) in
    next_value (λ (z : List Choice). map f (map choice_of z)) c.args.choices.now c.loop-choice.choice-index _ _ _ _ _ _ _
    c.loop-choice-test.true refl c.in_ok-push.ensures.ok c.in_ok-one_select.ensures refl c.loop-choice.invariant

pub returns : goal.returns
returns c =
    let f = select_of (with_kernel (classes_of c.args.classes.now)) (key_at (with_kernel (classes_of c.args.classes.now)) c.args.place) (texts c.args.parents.now) in
    rest_end (λ (z : List Choice). map f (map choice_of z)) c.args.choices.now c.loop-choice.choice-index _ _ c.loop-choice-test.false refl c.loop-choice.invariant
