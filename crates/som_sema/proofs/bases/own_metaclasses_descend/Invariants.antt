use Rattle.std.proofs.Common.{◌≡◌, drop, flat_map}
use Rattle.som_model.specs.Lists.{first}
use Rattle.som_order.specs.Names.{texts}
use Rattle.som_sema_scope.specs.ClassNames.{module_in_scope}
use Rattle.som_sema_drafts.specs.Drafts.{plain_draft}
use Rattle.som_sema.specs.TextRules.{makes_classes}
use Rattle.som_verify_classes.specs.Modules.{classes_of}
use Rattle.som_verify_classes.specs.Places.{with_kernel}
use Rattle.som_sema.proofs.bases.own_metaclasses_descend.Given as goal

abbrev pub invariant-loop-name : goal.invariant-loop-name
invariant-loop-name l = first (flat_map (makes_classes (module_in_scope l.scope) (with_kernel (classes_of l.classes)) (plain_draft l.draft)) (texts (drop l.name-index l.name-items)))
    ≡ first (flat_map (makes_classes (module_in_scope l.scope) (with_kernel (classes_of l.classes)) (plain_draft l.draft)) (texts l.name-items))
