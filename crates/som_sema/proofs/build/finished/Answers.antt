use Rattle.std.proofs.Common.{List, ap, map, arith, sym, ◌∙◌}
use Rattle.std.proofs.lemmas.Result.{err_from_is_err_and}
use Rattle.som_model.specs.Class.{class_in}
use Rattle.som_model.specs.declared.key.Module.TheVariants as modules
use Rattle.som_model.specs.declared.class.ClassDecl.{ClassDecl}
use Rattle.som_verify_classes.specs.Modules.{classes_of}
use Rattle.som_verify_classes.proofs.DeclaredClasses.{long_map}
use Rattle.som_sema_scope.specs.ClassNames.{module_in_scope}
use Rattle.som_sema.specs.Building.{finished_breach}
use Rattle.som_sema_drafts.specs.Drafts.{plain_drafts}
use Rattle.som_sema.proofs.Composing.{table_lists}
use Rattle.som_sema.proofs.Finishing.{declared_is, finished_table}
use Rattle.som_sema.proofs.Telling.{told_as}
use Rattle.som_sema.proofs.build.finished.Goals as goal

pub declarations-requires-clause-lists : goal.declarations-requires-clause-lists
declarations-requires-clause-lists c = table_lists (classes_of c.args.known.now) c.args.ancestors.now c.as_slice-lists.result.now c.requires.ancestors c.as_slice-lists.ensures.value

pub finished_hold-requires-clause-finished : goal.finished_hold-requires-clause-finished
finished_hold-requires-clause-finished c =
    let made = c.as_slice-own.ensures ∙ c.in_ok-all.ensures ∙ declared_is c.args.scope.now.module (map (class_in modules.Library) c.args.base.now) (plain_drafts c.args.drafts.now) (classes_of c.args.known.now) _ c.requires.known (omega (arith, long_map (class_in modules.Library) c.args.base.now)) in
    finished_table c.args.scope.now.module c.args.base.now (plain_drafts c.args.drafts.now) (classes_of c.args.known.now) c.as_slice-own.result.now c.args.ancestors.now c.requires.known made c.requires.ancestors

pub returns-in_err-finished_hold-clause-tells : goal.returns-in_err-finished_hold-clause-tells
returns-in_err-finished_hold-clause-tells c =
    let p = err_from_is_err_and c.from_residual-in_err-finished_hold.result c.from_residual-in_err-finished_hold.ensures.1 in
    let made = c.as_slice-own.ensures ∙ c.in_ok-all.ensures ∙ declared_is c.args.scope.now.module (map (class_in modules.Library) c.args.base.now) (plain_drafts c.args.drafts.now) (classes_of c.args.known.now) _ c.requires.known (omega (arith, long_map (class_in modules.Library) c.args.base.now)) in
    rw (p.1, p.2) (told_as _ _ _ (ap (λ (z : List ClassDecl). finished_breach (module_in_scope c.args.scope.now) c.args.scope.now.module (map (class_in modules.Library) c.args.base.now) (plain_drafts c.args.drafts.now) z) made) c.in_err-finished_hold.ensures)

pub returns-clause-tells : goal.returns-clause-tells
returns-clause-tells c =
    let made = c.as_slice-own.ensures ∙ c.in_ok-all.ensures ∙ declared_is c.args.scope.now.module (map (class_in modules.Library) c.args.base.now) (plain_drafts c.args.drafts.now) (classes_of c.args.known.now) _ c.requires.known (omega (arith, long_map (class_in modules.Library) c.args.base.now)) in
    sym (ap (λ (z : List ClassDecl). finished_breach (module_in_scope c.args.scope.now) c.args.scope.now.module (map (class_in modules.Library) c.args.base.now) (plain_drafts c.args.drafts.now) z) made) ∙ c.in_ok-finished_hold.ensures

pub returns-clause-ok : goal.returns-clause-ok
returns-clause-ok c =
    c.in_ok-all.ensures ∙ declared_is c.args.scope.now.module (map (class_in modules.Library) c.args.base.now) (plain_drafts c.args.drafts.now) (classes_of c.args.known.now) _ c.requires.known (omega (arith, long_map (class_in modules.Library) c.args.base.now))
