use Rattle.std.proofs.Common.{List, map, refl}
use Rattle.som_model.specs.Class.{class_in}
use Rattle.som_verify_classes.specs.Modules.{class_of, classes_of}
use Rattle.som_sema_drafts.specs.Drafts.{plain_drafts, draft_classes}
use Rattle.som_sema_drafts.specs.declared.drafts.Draft.{Draft}
use Rattle.som_sema_scope.proofs.Going.{next, pushed, rest_end}
use Rattle.som_sema_decls.proofs.known.add_drafts.Goals as goal

pub loop-draft-preserved : goal.loop-draft-preserved
loop-draft-preserved c =
    next (λ (z : List Draft). map (class_in c.args.own_module) (draft_classes (plain_drafts z))) c.args.drafts.now c.loop-draft.draft-index _ _ (classes_of c.loop-draft.classes.items) _ _ _
    c.loop-draft-test.true c.draft-item.is (pushed class_of _ _ _ c.in_ok-push.ensures.items) refl c.loop-draft.invariant

pub returns : goal.returns
returns c =
    rest_end (λ (z : List Draft). map (class_in c.args.own_module) (draft_classes (plain_drafts z))) c.args.drafts.now c.loop-draft.draft-index _ _ c.loop-draft-test.false refl c.loop-draft.invariant
