use Rattle.std.proofs.Common.{ℕ, ◌+◌, ◌++◌, List, ◌∷◌, [], drop, flat_map, map, ap, refl, sym, ◌∙◌}
use Rattle.som_sema_drafts.specs.Items.{Chosen, chosen_by, chosen_in, given_by}
use Rattle.som_sema_decls.specs.Selecting.{choice_of}
use Rattle.som_sema_drafts.specs.declared.given.Mark.{Mark}
use Rattle.som_sema_scope.proofs.Going.{next, next_none, pushed, rest_end}
use Rattle.som_sema_drafts.proofs.Unsaid.{not_chosen}
use Rattle.som_sema_decls.proofs.selected.choices.Goals as goal
use Rattle.som_sema_decls.proofs.selected.choices.Goals.{in-Select+in_ok-push, in_default}

abbrev one_choice : List ℕ → List ℕ → List Chosen
one_choice method parent = record { method = method; parent = parent } ∷ []

pub loop-mark-preserved : goal.loop-mark-preserved
loop-mark-preserved c =
    let rest = flat_map chosen_by (map given_by (drop (c.loop-mark.mark-index + 1) c.args.marks.now)) in
    elim c.match-mark.branch [
      | in-Select+in_ok-push w ↦ next (λ (z : List Mark). flat_map chosen_by (map given_by z)) c.args.marks.now c.loop-mark.mark-index c.mark-item.result _ (map choice_of c.loop-mark.all.items) _ _ _
          c.loop-mark-test.true c.mark-item.is (ap (λ v. map choice_of v.items) w.all-is ∙ pushed choice_of _ _ _ w.in_ok-push.ensures.items)
          (ap (λ (z : List Chosen). z ++ rest) (ap (chosen_in c.mark-item.result.method.now) w.in-Select.is ∙ ap (one_choice c.mark-item.result.method.now) (sym w.as_slice.ensures))) c.loop-mark.invariant
      | in_default w ↦ next_none (λ (z : List Mark). flat_map chosen_by (map given_by z)) c.args.marks.now c.loop-mark.mark-index c.mark-item.result _ (map choice_of c.loop-mark.all.items) _ _
          c.loop-mark-test.true c.mark-item.is (ap (λ v. map choice_of v.items) w.all-is)
          (ap (λ (z : List Chosen). z ++ rest) (not_chosen c.mark-item.result.method.now _ w.in_default.not-Select)) c.loop-mark.invariant
    ]

pub returns : goal.returns
returns c = rest_end (λ (z : List Mark). flat_map chosen_by (map given_by z)) c.args.marks.now c.loop-mark.mark-index (map choice_of c.loop-mark.all.items) _ c.loop-mark-test.false refl c.loop-mark.invariant
