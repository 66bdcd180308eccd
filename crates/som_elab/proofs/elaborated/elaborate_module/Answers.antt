use Rattle.std.proofs.Common.{List, Ok, option_copied, sym, ap, ◌∙◌}
use Rattle.std.proofs.lemmas.Result.{err_from_is_err_and}
use Rattle.som_model.specs.declared.class.ClassDecl.{ClassDecl}
use Rattle.som_sema_drafts.specs.Drafts.{InterfaceDraft, plain_drafts}
use Rattle.som_sema_scope.specs.Words.{interfaces_of, lent}
use Rattle.som_elab.specs.Elaboration.{drafts_of_classes}
use Rattle.som_elab_methods.specs.Bodies.{bodies_of}
use Rattle.som_elab.specs.declared.elaborated.ElaboratedModule.{ElaboratedModule}
use Rattle.som_elab.specs.Contexts.{completed}
use Rattle.som_elab_methods.specs.Texts.{given}
use Rattle.som_elab.proofs.ModuleLaws.{drafts_shown, faces_refused, faces_shown, shown_made, shown_refused}
use Rattle.som_elab.proofs.elaborated.elaborate_module.Goals as goal

pub returns-in_err-classes : goal.returns-in_err-classes
returns-in_err-classes c =
    let p = err_from_is_err_and c.from_residual.result c.from_residual.ensures.1 in
    rw (p.1, p.2) (faces_refused c.args.own_module c.args.base.now (interfaces_of c.args.idl.now) (bodies_of c.args.bodies.now) (option_copied c.args.main) c.in_err-classes.field-0.0 c.in_err-classes.ensures)

pub bodies_over-requires-clause-faces : goal.bodies_over-requires-clause-faces
bodies_over-requires-clause-faces c =
    let same = ap lent c.deref-2.ensures.value ∙ c.in_ok-interfaces.ensures ∙ ap interfaces_of c.as_slice.ensures in
    let drafted = ap plain_drafts c.deref-3.ensures.value ∙ c.in_ok-drafts.ensures ∙ ap (λ z. drafts_of_classes (lent z) c.in_ok-classes.classes) (c.deref.ensures.value ∙ sym c.deref-2.ensures.value) in
    faces_shown c.args.own_module c.args.base.now (interfaces_of c.args.idl.now) (lent c.deref-2.result.now) c.in_ok-classes.classes (plain_drafts c.deref-3.result.now) c.in_ok-classes.ensures same drafted

pub bodies_over-requires-clause-drafted : goal.bodies_over-requires-clause-drafted
bodies_over-requires-clause-drafted c =
    let same = ap lent c.deref-2.ensures.value ∙ c.in_ok-interfaces.ensures ∙ ap interfaces_of c.as_slice.ensures in
    let drafted = ap plain_drafts c.deref-3.ensures.value ∙ c.in_ok-drafts.ensures ∙ ap (λ z. drafts_of_classes (lent z) c.in_ok-classes.classes) (c.deref.ensures.value ∙ sym c.deref-2.ensures.value) in
    drafts_shown c.args.own_module c.args.base.now (interfaces_of c.args.idl.now) (lent c.deref-2.result.now) c.in_ok-classes.classes (plain_drafts c.deref-3.result.now) c.in_ok-classes.ensures same drafted

pub returns-in_err-made : goal.returns-in_err-made
returns-in_err-made c =
    let p = err_from_is_err_and c.from_residual-in_err-made.result c.from_residual-in_err-made.ensures.1 in
    let same = ap lent c.deref-2.ensures.value ∙ c.in_ok-interfaces.ensures ∙ ap interfaces_of c.as_slice.ensures in
    let drafted = ap plain_drafts c.deref-3.ensures.value ∙ c.in_ok-drafts.ensures ∙ ap (λ z. drafts_of_classes (lent z) c.in_ok-classes.classes) (c.deref.ensures.value ∙ sym c.deref-2.ensures.value) in
    let texts = ap given c.deref-4.ensures.value ∙ c.in_ok-texts.ensures ∙ ap bodies_of c.as_slice-2.ensures in
    rw (p.1, p.2) (shown_refused c.args.own_module c.args.base.now (interfaces_of c.args.idl.now) (lent c.deref-2.result.now) c.in_ok-classes.classes (plain_drafts c.deref-3.result.now) c.in_ok-classes.ensures same drafted
    (bodies_of c.args.bodies.now) (given c.deref-4.result.now) (option_copied c.args.main) texts c.in_err-made.field-0.0 c.in_err-made.ensures)

pub returns : goal.returns
returns c =
    let same = ap lent c.deref-2.ensures.value ∙ c.in_ok-interfaces.ensures ∙ ap interfaces_of c.as_slice.ensures in
    let drafted = ap plain_drafts c.deref-3.ensures.value ∙ c.in_ok-drafts.ensures ∙ ap (λ z. drafts_of_classes (lent z) c.in_ok-classes.classes) (c.deref.ensures.value ∙ sym c.deref-2.ensures.value) in
    let texts = ap given c.deref-4.ensures.value ∙ c.in_ok-texts.ensures ∙ ap bodies_of c.as_slice-2.ensures in
    shown_made c.args.own_module c.args.base.now (interfaces_of c.args.idl.now) (lent c.deref-2.result.now) c.in_ok-classes.classes (plain_drafts c.deref-3.result.now) c.in_ok-classes.ensures same drafted
    (bodies_of c.args.bodies.now) (given c.deref-4.result.now) (option_copied c.args.main) texts c.in_ok-made.made c.in_ok-made.ensures
    ∙ ap (λ (z : List InterfaceDraft). let w : ElaboratedModule = record { classes = completed z c.in_ok-made.made.classes; main = c.in_ok-made.made.main } in Ok w) (ap plain_drafts c.deref-3.ensures.value)
    ∙ ap (λ (z : List ClassDecl). let w : ElaboratedModule = record { classes = z; main = c.in_ok-made.made.main } in Ok w) (sym c.in_ok-classes-2.ensures)
