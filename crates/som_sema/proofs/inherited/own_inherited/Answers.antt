use Rattle.std.proofs.Common.{List, flat_map, map, ap, subst, ◌∙◌}
use Rattle.som_model.specs.Lists.{first}
use Rattle.som_verify_classes.specs.Modules.{classes_of}
use Rattle.som_verify_classes.specs.Places.{key_at, with_kernel}
use Rattle.som_verify_classes.specs.Told.{Tells}
use Rattle.som_sema_scope.specs.ClassNames.{module_in_scope}
use Rattle.som_sema_drafts.specs.Drafts.{plain_draft}
use Rattle.som_sema_drafts.specs.Items.{Given, given, given_by}
use Rattle.som_sema.specs.TextRules.{replaces_inherited}
use Rattle.som_sema.proofs.inherited.own_inherited.Goals as goal

pub given_inherited-requires-clause-marks : goal.given_inherited-requires-clause-marks
given_inherited-requires-clause-marks c = ap (map given_by) c.deref.ensures.value ∙ c.in_ok-marks.ensures ∙ ap given c.as_slice.ensures

pub returns : goal.returns
returns c =
    subst (λ (gs : List Given). Tells (first (flat_map (replaces_inherited (module_in_scope c.args.scope.now) (with_kernel (classes_of c.args.classes.now)) (key_at (with_kernel (classes_of c.args.classes.now)) c.args.place) (plain_draft c.args.draft.now)) gs)) c.given_inherited.result)
    (ap (map given_by) c.deref.ensures.value ∙ c.in_ok-marks.ensures ∙ ap given c.as_slice.ensures)
    c.given_inherited.ensures
