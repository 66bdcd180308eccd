use Rattle.std.proofs.Common.{◌≡◌, ◌+◌, drop}
use Rattle.som_model.specs.Lists.{first}
use Rattle.som_sema_scope.specs.ClassNames.{module_in_scope}
use Rattle.som_sema_drafts.specs.Drafts.{plain_drafts}
use Rattle.som_sema.specs.TextRules.{text_s2_from}
use Rattle.som_verify_classes.specs.Modules.{classes_of}
use Rattle.som_verify_classes.specs.Places.{with_kernel}
use Rattle.som_sema.proofs.bases.bases_stand.Given as goal

abbrev pub invariant-loop-draft : goal.invariant-loop-draft
invariant-loop-draft l = record {
  place : l.place ≡ l.from + l.draft-index;
  same : first (text_s2_from (module_in_scope l.scope) (with_kernel (classes_of l.classes)) l.place (plain_drafts (drop l.draft-index l.drafts)))
      ≡ first (text_s2_from (module_in_scope l.scope) (with_kernel (classes_of l.classes)) l.from (plain_drafts l.drafts));
}
