use Rattle.std.proofs.Common.{◌≡◌, ◌++◌, drop, map}
use Rattle.som_model.specs.Class.{class_in}
use Rattle.som_sema_drafts.specs.Drafts.{plain_drafts, draft_classes}
use Rattle.som_verify_classes.specs.Modules.{classes_of}
use Rattle.som_sema_decls.proofs.known.add_drafts.Given as goal

abbrev pub invariant-loop-draft : goal.invariant-loop-draft
invariant-loop-draft l = classes_of l.classes.items ++ map (class_in l.own_module) (draft_classes (plain_drafts (drop l.draft-index l.drafts)))
    ≡ classes_of l.fn.classes.items ++ map (class_in l.own_module) (draft_classes (plain_drafts l.drafts))
