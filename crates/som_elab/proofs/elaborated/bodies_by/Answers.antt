use Rattle.std.proofs.Common.{◌≡◌, List, None, option_copied, sym, ◌∙◌, subst}
use Rattle.som_sema_scope.specs.ClassNames.{module_in_scope}
use Rattle.som_sema_drafts.specs.Drafts.{plain_drafts}
use Rattle.som_verify_classes.specs.declared.types.Declared.{Declared}
use Rattle.som_verify_classes.specs.Modules.{classes_of}
use Rattle.som_verify_classes.specs.Places.{with_kernel}
use Rattle.som_elab.specs.Blocks.{Answers}
use Rattle.som_elab.specs.Contexts.{StandAfterOthers, checked_steps}
use Rattle.som_sema_names.specs.Introducers.{AreIntroducers}
use Rattle.som_verify_classes.specs.Faces.{classes_breach}
use Rattle.som_elab_methods.specs.Texts.{given}
use Rattle.som_elab.proofs.elaborated.bodies_by.Goals as goal

pub know-known-requires : goal.know-known-requires
know-known-requires c = record {
  table = c.requires.parts.table;
  kernel = c.as_slice.ensures ∙ c.requires.parts.kernel;
  lists = rw c.as_slice-2.ensures.value c.requires.parts.lists;
  rules = c.requires.rules;
}

pub bodies_known-requires-clause-introducers : goal.bodies_known-requires-clause-introducers
bodies_known-requires-clause-introducers c = subst (λ (z : List Declared). AreIntroducers (with_kernel (classes_of z)) c.args.introducers.now) (sym c.know-known.ensures.classes) c.requires.introducers

pub bodies_known-requires-clause-rules : goal.bodies_known-requires-clause-rules
bodies_known-requires-clause-rules c = (c.requires.rules.0, subst (λ (z : List Declared). classes_breach c.requires.rules.0 (classes_of z) ≡ None) (sym c.know-known.ensures.classes) c.requires.rules.1)

pub bodies_known-requires-clause-stand : goal.bodies_known-requires-clause-stand
bodies_known-requires-clause-stand c = subst (λ (z : List Declared). StandAfterOthers c.args.scope.now.module (classes_of z) (plain_drafts c.args.drafts.now)) (sym c.know-known.ensures.classes) c.requires.stand

pub returns : goal.returns
returns c = subst (λ (z : List Declared). Answers (checked_steps (record { classes = with_kernel (classes_of z); module_of = module_in_scope c.args.scope.now }) c.args.scope.now.module (given c.args.texts.now.all.now) (plain_drafts c.args.drafts.now) (option_copied c.args.main)) c.bodies_known.result)
    c.know-known.ensures.classes c.bodies_known.ensures
