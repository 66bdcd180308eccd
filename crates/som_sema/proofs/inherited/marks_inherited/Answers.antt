use Rattle.std.proofs.Common.{List, flat_map, map, refl}
use Rattle.som_order.specs.Names.{texts}
use Rattle.som_verify_classes.specs.Modules.{classes_of}
use Rattle.som_verify_classes.specs.Places.{key_at, with_kernel}
use Rattle.som_sema_scope.specs.ClassNames.{module_in_scope}
use Rattle.som_sema_drafts.specs.Drafts.{plain_draft}
use Rattle.som_sema_drafts.specs.Items.{given_by, or_object, selecting}
use Rattle.som_sema.specs.TextRules.{replaces_inherited}
use Rattle.som_sema_drafts.specs.declared.given.Mark.{Mark}
use Rattle.som_sema_drafts.specs.Demands.{text_breach}
use Rattle.som_sema.proofs.Passing.{breaks, fails, holds, stays}
use Rattle.som_sema.proofs.inherited.marks_inherited.Goals as goal

pub returns-then-not-branch : goal.returns-then-not-branch
returns-then-not-branch c =
    let cs = with_kernel (classes_of c.args.classes.now) in
    let d = plain_draft c.args.draft.now in
    let h = module_in_scope c.args.scope.now in
    let rule = replaces_inherited h cs (key_at cs c.args.place) d in
    rw c.in_ok-breach.ensures (breaks (λ (z : List Mark). flat_map rule (map given_by z)) c.args.marks.now c.loop-mark.mark-index c.mark-item.result _ (rule (given_by c.mark-item.result)) _ (text_breach 10 d c.mark-item.result.method.now)
    c.loop-mark-test.true c.mark-item.is refl
    (fails h cs (key_at cs c.args.place) d (or_object c.args.draft.now.text.now.parents) (selecting c.args.draft.now.text.now.items) (texts c.args.text.now.parents.keys) (texts c.args.text.now.methods.keys)
    c.requires.text.parents c.requires.text.methods (given_by c.mark-item.result) c.in_ok-mark_inherits.field-0 c.in_ok-mark_inherits.ensures c.if-not-branch.true)
    c.loop-mark.invariant)

pub loop-mark-preserved : goal.loop-mark-preserved
loop-mark-preserved c =
    let cs = with_kernel (classes_of c.args.classes.now) in
    let d = plain_draft c.args.draft.now in
    let h = module_in_scope c.args.scope.now in
    let rule = replaces_inherited h cs (key_at cs c.args.place) d in
    stays (λ (z : List Mark). flat_map rule (map given_by z)) c.args.marks.now c.loop-mark.mark-index c.mark-item.result _ (rule (given_by c.mark-item.result)) _
    c.loop-mark-test.true c.mark-item.is refl
    (holds h cs (key_at cs c.args.place) d (or_object c.args.draft.now.text.now.parents) (selecting c.args.draft.now.text.now.items) (texts c.args.text.now.parents.keys) (texts c.args.text.now.methods.keys)
    c.requires.text.parents c.requires.text.methods (given_by c.mark-item.result) c.in_ok-mark_inherits.field-0 c.in_ok-mark_inherits.ensures c.if-not-branch.false)
    c.loop-mark.invariant
