use Rattle.std.proofs.Common.{◌≡◌, List, length, map, None, option_copied, sym, ap, ◌∙◌, subst}
use Rattle.som_model.specs.Class.{Class, class_in}
use Rattle.som_model.specs.declared.key.Module.TheVariants as modules
use Rattle.som_sema_scope.specs.ClassNames.{module_in_scope}
use Rattle.som_sema_drafts.specs.Drafts.{plain_drafts}
use Rattle.som_verify_classes.specs.Faces.{classes_breach}
use Rattle.som_verify_classes.specs.Modules.{classes_of}
use Rattle.som_verify_classes.specs.Places.{with_kernel}
use Rattle.som_elab.specs.Blocks.{Answers}
use Rattle.som_elab.specs.Contexts.{checked_steps}
use Rattle.som_elab_methods.specs.Texts.{given}
use Rattle.som_elab.proofs.elaborated.bodies_after.Goals as goal

pub bodies_among-requires-clause-rules : goal.bodies_among-requires-clause-rules
bodies_among-requires-clause-rules c =
    let same = ap classes_of c.as_slice.ensures.value ∙ c.in_ok-classes.ensures in
    (length c.args.base.now, subst (λ (z : List Class). classes_breach (length c.args.base.now) z ≡ None) (sym same) c.requires.rules)

pub bodies_among-requires-clause-stand : goal.bodies_among-requires-clause-stand
bodies_among-requires-clause-stand c = record {
  front = map (class_in modules.Library) c.args.base.now;
  are = ap classes_of c.as_slice.ensures.value ∙ c.in_ok-classes.ensures;
  few = c.requires.few;
  parents = c.requires.parents;
}

pub returns : goal.returns
returns c =
    let same = ap classes_of c.as_slice.ensures.value ∙ c.in_ok-classes.ensures in
    subst (λ (z : List Class). Answers (checked_steps (record { classes = with_kernel z; module_of = module_in_scope c.args.scope.now }) c.args.scope.now.module (given c.args.texts.now.all.now) (plain_drafts c.args.drafts.now) (option_copied c.args.main)) c.bodies_among.result)
    same c.bodies_among.ensures
