use Rattle.std.proofs.Common.{◌≡◌, List, ap, map, ◌∙◌, refl, subst}
use Rattle.std.specs.Prelude.{IfOk}
use Rattle.som_model.specs.Classes.{interface_classes}
use Rattle.som_model.specs.declared.class.ClassDecl.{ClassDecl}
use Rattle.som_verify_classes.specs.Told.{Tells}
use Rattle.som_sema_scope.specs.ClassNames.{face_names, kernel_names, module_by_names, module_in_scope}
use Rattle.som_sema_scope.specs.Words.{interface_names, lent, once}
use Rattle.som_sema_drafts.specs.Drafts.{draft_of}
use Rattle.som_sema.proofs.Answered.{breach_is, declared_are}
use Rattle.som_sema.proofs.build.faces.Goals as goal

pub returns-clause-tells : goal.returns-clause-tells
returns-clause-tells c =
    subst (λ o. Tells o c.faces_in_scope.result) (breach_is c.args.own_module c.args.base.now (lent c.args.interfaces.now) (module_in_scope c.in_ok-scope.scope) c.in_ok-scope.scope.module
    (interface_classes c.args.base.now) (map (draft_of (module_in_scope c.in_ok-scope.scope)) (lent c.args.interfaces.now))
    (c.in_ok-scope.ensures.names ∙ ap (λ z. module_by_names c.args.own_module (once (interface_names (lent c.args.interfaces.now))) (once (face_names z)) kernel_names) c.as_slice-known.ensures)
    c.in_ok-scope.ensures.own refl refl) c.faces_in_scope.ensures.tells

pub returns-clause-ok : goal.returns-clause-ok
returns-clause-ok c =
    subst (λ (z : List ClassDecl). IfOk c.faces_in_scope.result (λ ds. ds ≡ z)) (declared_are c.args.own_module c.args.base.now (lent c.args.interfaces.now) (module_in_scope c.in_ok-scope.scope) c.in_ok-scope.scope.module
    (interface_classes c.args.base.now) (map (draft_of (module_in_scope c.in_ok-scope.scope)) (lent c.args.interfaces.now))
    (c.in_ok-scope.ensures.names ∙ ap (λ z. module_by_names c.args.own_module (once (interface_names (lent c.args.interfaces.now))) (once (face_names z)) kernel_names) c.as_slice-known.ensures)
    c.in_ok-scope.ensures.own refl refl) c.faces_in_scope.ensures.ok
