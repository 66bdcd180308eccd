use Rattle.std.proofs.Common.{List, ap, map, ◌++◌, ◌∙◌}
use Rattle.som_model.specs.Class.{class_in}
use Rattle.som_model.specs.declared.key.Module.TheVariants as modules
use Rattle.som_verify_classes.specs.Modules.{classes_of}
use Rattle.som_verify_classes.specs.declared.types.Declared.{Declared}
use Rattle.som_sema_drafts.specs.Drafts.{plain_drafts, draft_classes}
use Rattle.som_sema_decls.proofs.known.known_classes.Goals as goal

pub returns : goal.returns
returns c =
    c.in_ok-add_drafts.ensures
    ∙ ap (λ z. z ++ map (class_in c.args.own_module) (draft_classes (plain_drafts c.args.drafts.now)))
    (c.in_ok-classes.ensures ∙ ap (λ (z : List Declared). classes_of z ++ map (class_in modules.Library) c.args.base.now) c.new.ensures.items)
