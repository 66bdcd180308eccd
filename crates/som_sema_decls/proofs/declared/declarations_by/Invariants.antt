use Rattle.std.proofs.Common.{◌≡◌, ◌+◌, ◌++◌, drop}
use Rattle.som_sema_decls.specs.Finished.{declared_from}
use Rattle.som_sema_drafts.specs.Drafts.{plain_drafts}
use Rattle.som_verify_classes.specs.Modules.{classes_of}
use Rattle.som_verify_classes.specs.Places.{with_kernel}
use Rattle.som_sema_decls.proofs.declared.declarations_by.Given as goal

abbrev pub invariant-loop-draft : goal.invariant-loop-draft
invariant-loop-draft l = record {
  place : l.place ≡ l.from + l.draft-index;
  made : l.all ++ declared_from (with_kernel (classes_of l.classes)) l.place (plain_drafts (drop l.draft-index l.drafts)) ≡ declared_from (with_kernel (classes_of l.classes)) l.from (plain_drafts l.drafts);
}
