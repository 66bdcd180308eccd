use Rattle.std.proofs.Common.{◌∷◌, ◌++◌, ◌+◌, drop, ap, refl, ◌∙◌}
use Rattle.som_order.specs.Names.{texts}
use Rattle.som_sema_drafts.specs.Items.{listed}
use Rattle.som_sema_scope.specs.Words.{words}
use Rattle.som_sema_scope.proofs.Going.{next, next_none, rest_end}
use Rattle.som_sema_drafts.proofs.Unsaid.{not_listed}
use Rattle.som_sema_drafts.proofs.items.listed.Goals as goal
use Rattle.som_sema_drafts.proofs.items.listed.Goals.{in-ReleaseOrder+in_ok-add_words, in_default}

pub loop-item-preserved : goal.loop-item-preserved
loop-item-preserved c = elim c.match-item.branch [
  | in-ReleaseOrder+in_ok-add_words w ↦ next listed c.args.items.now c.loop-item.item-index _ _ (texts c.loop-item.names.items) _ _ _
      c.loop-item-test.true c.item-item.is (ap (λ v. texts v.items) w.names-is ∙ w.in_ok-add_words.ensures ∙ ap (λ z. texts c.loop-item.names.items ++ words z) w.as_slice.ensures)
      (ap (λ z. listed (z ∷ drop (c.loop-item.item-index + 1) c.args.items.now)) w.in-ReleaseOrder.is) c.loop-item.invariant
  | in_default w ↦ next_none listed c.args.items.now c.loop-item.item-index _ _ (texts c.loop-item.names.items) _ _
      c.loop-item-test.true c.item-item.is (ap (λ v. texts v.items) w.names-is)
      (ap (λ z. z ++ listed (drop (c.loop-item.item-index + 1) c.args.items.now)) (not_listed c.item-item.result w.in_default.not-ReleaseOrder)) c.loop-item.invariant
]

pub returns : goal.returns
returns c = rest_end listed c.args.items.now c.loop-item.item-index _ _ c.loop-item-test.false refl c.loop-item.invariant
