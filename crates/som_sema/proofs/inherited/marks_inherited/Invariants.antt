use Rattle.std.proofs.Common.{◌≡◌, drop, flat_map, map}
use Rattle.som_model.specs.Lists.{first}
use Rattle.som_sema_scope.specs.ClassNames.{module_in_scope}
use Rattle.som_sema_drafts.specs.Drafts.{plain_draft}
use Rattle.som_sema_drafts.specs.Items.{given_by}
use Rattle.som_sema.specs.TextRules.{replaces_inherited}
use Rattle.som_verify_classes.specs.Modules.{classes_of}
use Rattle.som_verify_classes.specs.Places.{key_at, with_kernel}
use Rattle.som_sema.proofs.inherited.marks_inherited.Given as goal

abbrev pub invariant-loop-mark : goal.invariant-loop-mark
invariant-loop-mark l =
    first (flat_map (replaces_inherited (module_in_scope l.scope) (with_kernel (classes_of l.classes)) (key_at (with_kernel (classes_of l.classes)) l.place) (plain_draft l.draft)) (map given_by (drop l.mark-index l.marks)))
    ≡ first (flat_map (replaces_inherited (module_in_scope l.scope) (with_kernel (classes_of l.classes)) (key_at (with_kernel (classes_of l.classes)) l.place) (plain_draft l.draft)) (map given_by l.marks))
