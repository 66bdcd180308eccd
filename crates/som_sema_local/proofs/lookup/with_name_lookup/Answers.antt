use Rattle.std.proofs.Common.{◌+◌, List, drop, map, ap, refl, ◌∙◌}
use Rattle.som_order.specs.Names.{texts}
use Rattle.som_sema_drafts.specs.Items.{given_by, is_by_name, with_modifier}
use Rattle.som_sema_drafts.specs.declared.given.Mark.{Mark}
use Rattle.som_sema_scope.proofs.Going.{next, next_none, rest_end}
use Rattle.som_sema_drafts.proofs.Unsaid.{given_once, given_not, not_by_name}
use Rattle.som_sema_local.proofs.lookup.with_name_lookup.Goals as goal
use Rattle.som_sema_local.proofs.lookup.with_name_lookup.Goals.{in-NameLookup+in_ok-add, in_default}

pub loop-mark-preserved : goal.loop-mark-preserved
loop-mark-preserved c = elim c.match-mark.branch [
  | in-NameLookup+in_ok-add w ↦ next (λ (z : List Mark). with_modifier is_by_name (map given_by z)) c.args.marks.now c.loop-mark.mark-index c.mark-item.result _ (texts c.loop-mark.names.items) _ _ _
      c.loop-mark-test.true c.mark-item.is (ap (λ v. texts v.items) w.names-is ∙ w.in_ok-add.ensures.ok)
      (given_once is_by_name (given_by c.mark-item.result) (map given_by (drop (c.loop-mark.mark-index + 1) c.args.marks.now)) (ap is_by_name w.in-NameLookup.is)) c.loop-mark.invariant
  | in_default w ↦ next_none (λ (z : List Mark). with_modifier is_by_name (map given_by z)) c.args.marks.now c.loop-mark.mark-index c.mark-item.result _ (texts c.loop-mark.names.items) _ _
      c.loop-mark-test.true c.mark-item.is (ap (λ v. texts v.items) w.names-is)
      (given_not is_by_name (given_by c.mark-item.result) (map given_by (drop (c.loop-mark.mark-index + 1) c.args.marks.now)) (not_by_name _ w.in_default.not-NameLookup)) c.loop-mark.invariant
]

pub returns : goal.returns
returns c = rest_end (λ (z : List Mark). with_modifier is_by_name (map given_by z)) c.args.marks.now c.loop-mark.mark-index (texts c.loop-mark.names.items) _ c.loop-mark-test.false refl c.loop-mark.invariant
