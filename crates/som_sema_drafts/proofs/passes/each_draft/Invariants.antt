use Rattle.std.proofs.Common.{◌≡◌, ℕ, List, drop, flat_map, slice_get, Result, Some}
use Rattle.som_model.specs.Lists.{first}
use Rattle.som_model.specs.Rules.{RuleBreach}
use Rattle.som_sema_drafts.specs.Drafts.{InterfaceDraft, plain_drafts, plain_draft}
use Rattle.som_sema_drafts.specs.declared.drafts.Draft.{Draft}
use Rattle.som_verify_classes.specs.declared.types.VerifyFault.{VerifyFault}
use Rattle.som_verify_classes.specs.Told.{Tells}
use Rattle.som_sema_drafts.proofs.passes.each_draft.Given as goal

abbrev pub invariant-loop-place : goal.invariant-loop-place
invariant-loop-place g l = (one : InterfaceDraft → List RuleBreach)
    → ((place : ℕ) (d : Draft) (r : Result (Unit {0}) VerifyFault) → slice_get l.drafts place ≡ Some d → g.F.Fn.post l.rule (place, tt) r → Tells (first (one (plain_draft d))) r)
    → first (flat_map one (plain_drafts (drop l.place l.drafts))) ≡ first (flat_map one (plain_drafts l.drafts))
