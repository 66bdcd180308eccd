use Rattle.std.proofs.Common.{◌∙◌, sym, refl}
use Rattle.std.proofs.lemmas.Result.{err_from_is_err_and}
use Rattle.som_sema_scope.specs.ClassNames.{module_in_scope}
use Rattle.som_sema_drafts.specs.Drafts.{plain_drafts}
use Rattle.som_sema.proofs.Finishing.{inherited_is}
use Rattle.som_sema.proofs.Telling.{after_none, here, later, told_as}
use Rattle.som_sema.proofs.build.finished_hold.Goals as goal

pub returns-in_err-replaced_inherited : goal.returns-in_err-replaced_inherited
returns-in_err-replaced_inherited c =
    let p = err_from_is_err_and c.from_residual-in_err-replaced_inherited.result c.from_residual-in_err-replaced_inherited.ensures.1 in
    let same = inherited_is (module_in_scope c.args.scope.now) c.args.scope.now.module c.args.known.now c.args.base.now (plain_drafts c.args.drafts.now) _ c.requires.known refl in
    rw (p.1, p.2) (later _ _ _ c.in_ok-entries_hold.ensures (here _ _ _ (told_as _ _ _ same c.in_err-replaced_inherited.ensures)))

pub returns-in_err-modifiers_stand : goal.returns-in_err-modifiers_stand
returns-in_err-modifiers_stand c =
    let p = err_from_is_err_and c.from_residual-in_err-modifiers_stand.result c.from_residual-in_err-modifiers_stand.ensures.1 in
    let same = inherited_is (module_in_scope c.args.scope.now) c.args.scope.now.module c.args.known.now c.args.base.now (plain_drafts c.args.drafts.now) _ c.requires.known refl in
    rw (p.1, p.2) (later _ _ _ c.in_ok-entries_hold.ensures (later _ _ _ (sym same ∙ c.in_ok-replaced_inherited.ensures) (here _ _ _ c.in_err-modifiers_stand.ensures)))

pub returns : goal.returns
returns c =
    let same = inherited_is (module_in_scope c.args.scope.now) c.args.scope.now.module c.args.known.now c.args.base.now (plain_drafts c.args.drafts.now) _ c.requires.known refl in
    after_none _ _ _ c.in_ok-entries_hold.ensures (after_none _ _ _ (sym same ∙ c.in_ok-replaced_inherited.ensures) (after_none _ _ _ c.in_ok-modifiers_stand.ensures c.items_differ.ensures))
