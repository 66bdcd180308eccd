use Rattle.std.proofs.Common.{ap, sym, ◌∙◌, refl}
use Rattle.std.proofs.lemmas.Result.{err_from_is_err_and}
use Rattle.som_verify_classes.specs.Faces.{faces_breach}
use Rattle.som_sema_scope.specs.ClassNames.{module_in_scope}
use Rattle.som_sema_drafts.specs.Drafts.{plain_drafts}
use Rattle.som_sema.proofs.Finishing.{base_front, own_rest, draft_class_is}
use Rattle.som_sema.proofs.Telling.{after_none, here, told_as}
use Rattle.som_sema.proofs.build.built_among.Goals as goal

pub drafts_hold-requires-clause-conforms : goal.drafts_hold-requires-clause-conforms
drafts_hold-requires-clause-conforms c = ap faces_breach (base_front c.args.scope.now.module c.args.known.now c.args.base.now _ _ c.requires.known refl) ∙ c.requires.conforms

pub drafts_hold-requires-clause-own : goal.drafts_hold-requires-clause-own
drafts_hold-requires-clause-own c = own_rest c.args.scope.now.module c.args.known.now c.args.base.now _ _ c.requires.known refl

pub returns-in_err-ancestors-clause-tells : goal.returns-in_err-ancestors-clause-tells
returns-in_err-ancestors-clause-tells c =
    let p = err_from_is_err_and c.from_residual.result c.from_residual.ensures.1 in
    rw (p.1, p.2) (here _ _ _ (told_as _ _ _ (draft_class_is (module_in_scope c.args.scope.now) c.args.scope.now.module c.args.known.now c.args.base.now (plain_drafts c.args.drafts.now) _ c.requires.known refl) c.in_err-ancestors.ensures.tells))

pub returns-clause-tells : goal.returns-clause-tells
returns-clause-tells c =
    after_none _ _ _
    (sym (draft_class_is (module_in_scope c.args.scope.now) c.args.scope.now.module c.args.known.now c.args.base.now (plain_drafts c.args.drafts.now) _ c.requires.known refl) ∙ c.in_ok-ancestors.ensures.tells)
    c.finished.ensures.tells
