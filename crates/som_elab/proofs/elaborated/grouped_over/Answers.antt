use Rattle.std.proofs.Common.{length, option_copied, sym, ap, ◌∙◌, subst}
use Rattle.som_model.specs.Class.{bare}
use Rattle.som_sema_scope.specs.ClassNames.{face_names, module_in_scope, kernel_names, module_by_names}
use Rattle.som_sema_drafts.specs.Drafts.{plain_drafts}
use Rattle.som_sema_scope.specs.Words.{interface_names, lent, once}
use Rattle.som_sema.proofs.Finishing.{base_is}
use Rattle.som_verify_classes.proofs.DeclaredClasses.{long_map}
use Rattle.som_elab.specs.Contexts.{ParentsCounted}
use Rattle.som_elab_methods.specs.Texts.{given}
use Rattle.som_elab.proofs.Declared.{parents_counted}
use Rattle.som_elab.proofs.ModuleLaws.{few_over, rules_over, steps_over}
use Rattle.som_elab.proofs.elaborated.grouped_over.Goals as goal

pub bodies_after-requires-clause-rules : goal.bodies_after-requires-clause-rules
bodies_after-requires-clause-rules c =
    let bares = c.as_slice.ensures ∙ c.in_ok-bares.ensures in
    rules_over c.args.own_module c.args.base.now (lent c.args.interfaces.now) c.in_ok-scope.scope.module c.as_slice.result.now (plain_drafts c.args.drafts.now) (module_in_scope c.in_ok-scope.scope)
    c.in_ok-scope.ensures.own (base_is c.args.base.now c.as_slice.result.now c.as_slice-known.result.now bares c.as_slice-known.ensures) c.requires.drafted
    (c.in_ok-scope.ensures.names ∙ ap (λ z. module_by_names c.args.own_module (once (interface_names (lent c.args.interfaces.now))) (once (face_names z)) kernel_names) c.as_slice-known.ensures)
    (ap length bares ∙ long_map bare c.as_slice-known.result.now ∙ ap length c.as_slice-known.ensures) c.requires.conforms c.requires.faces

pub bodies_after-requires-clause-few : goal.bodies_after-requires-clause-few
bodies_after-requires-clause-few c =
    let bares = c.as_slice.ensures ∙ c.in_ok-bares.ensures in
    few_over c.args.own_module c.args.base.now (lent c.args.interfaces.now) c.in_ok-scope.scope.module c.as_slice.result.now (plain_drafts c.args.drafts.now) (module_in_scope c.in_ok-scope.scope)
    c.in_ok-scope.ensures.own (base_is c.args.base.now c.as_slice.result.now c.as_slice-known.result.now bares c.as_slice-known.ensures) c.requires.drafted
    (c.in_ok-scope.ensures.names ∙ ap (λ z. module_by_names c.args.own_module (once (interface_names (lent c.args.interfaces.now))) (once (face_names z)) kernel_names) c.as_slice-known.ensures)
    c.requires.few

pub bodies_after-requires-clause-parents : goal.bodies_after-requires-clause-parents
bodies_after-requires-clause-parents c = subst ParentsCounted (sym c.requires.drafted) (parents_counted c.args.own_module c.args.base.now (lent c.args.interfaces.now))

pub returns : goal.returns
returns c =
    let bares = c.as_slice.ensures ∙ c.in_ok-bares.ensures in
    steps_over c.args.own_module c.args.base.now (lent c.args.interfaces.now) c.in_ok-scope.scope.module c.as_slice.result.now (plain_drafts c.args.drafts.now) (module_in_scope c.in_ok-scope.scope)
    c.in_ok-scope.ensures.own (base_is c.args.base.now c.as_slice.result.now c.as_slice-known.result.now bares c.as_slice-known.ensures) c.requires.drafted
    (c.in_ok-scope.ensures.names ∙ ap (λ z. module_by_names c.args.own_module (once (interface_names (lent c.args.interfaces.now))) (once (face_names z)) kernel_names) c.as_slice-known.ensures)
    (given c.args.texts.now.all.now) (option_copied c.args.main) c.bodies_after.result c.bodies_after.ensures
