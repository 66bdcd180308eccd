use Rattle.std.proofs.Common.{◌≡◌, List, ap, ◌∙◌, subst}
use Rattle.std.specs.Prelude.{IfOk}
use Rattle.som_model.specs.Classes.{interface_classes}
use Rattle.som_model.specs.declared.class.ClassDecl.{ClassDecl}
use Rattle.som_verify_classes.specs.Faces.{faces_breach}
use Rattle.som_verify_classes.specs.Told.{Tells}
use Rattle.som_sema_scope.specs.ClassNames.{module_in_scope}
use Rattle.som_sema_scope.specs.Words.{lent}
use Rattle.som_sema.specs.Building.{declared_all, draft_rules_breach}
use Rattle.som_sema_drafts.specs.Drafts.{plain_drafts}
use Rattle.som_sema.proofs.Finishing.{base_is}
use Rattle.som_sema.proofs.TextBases.{are_drafts}
use Rattle.som_sema.proofs.build.faces_in_scope.Goals as goal

pub built-requires-clause-conforms : goal.built-requires-clause-conforms
built-requires-clause-conforms c =
    ap faces_breach (base_is c.args.base.now c.as_slice-2.result.now c.as_slice.result.now (c.as_slice-2.ensures ∙ c.in_ok-bares.ensures) c.as_slice.ensures) ∙ c.requires.conforms

pub built-requires-clause-drafted : goal.built-requires-clause-drafted
built-requires-clause-drafted c =
    are_drafts (module_in_scope c.args.scope.now) (lent c.args.interfaces.now) (plain_drafts c.as_slice-3.result.now) (ap plain_drafts c.as_slice-3.ensures.value ∙ c.in_ok-drafts.ensures)

pub returns-clause-tells : goal.returns-clause-tells
returns-clause-tells c =
    let h = module_in_scope c.args.scope.now in
    let m = c.args.scope.now.module in
    subst (λ o. Tells o c.built.result)
    (ap (λ z. draft_rules_breach h m z (plain_drafts c.as_slice-3.result.now)) (base_is c.args.base.now c.as_slice-2.result.now c.as_slice.result.now (c.as_slice-2.ensures ∙ c.in_ok-bares.ensures) c.as_slice.ensures)
    ∙ ap (draft_rules_breach h m (interface_classes c.args.base.now)) (ap plain_drafts c.as_slice-3.ensures.value ∙ c.in_ok-drafts.ensures)) c.built.ensures.tells

pub returns-clause-ok : goal.returns-clause-ok
returns-clause-ok c =
    let m = c.args.scope.now.module in
    subst (λ (z : List ClassDecl). IfOk c.built.result (λ ds. ds ≡ z))
    (ap (λ z. declared_all m z (plain_drafts c.as_slice-3.result.now)) (base_is c.args.base.now c.as_slice-2.result.now c.as_slice.result.now (c.as_slice-2.ensures ∙ c.in_ok-bares.ensures) c.as_slice.ensures)
    ∙ ap (declared_all m (interface_classes c.args.base.now)) (ap plain_drafts c.as_slice-3.ensures.value ∙ c.in_ok-drafts.ensures)) c.built.ensures.ok
