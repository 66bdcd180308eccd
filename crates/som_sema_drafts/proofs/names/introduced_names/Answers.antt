use Rattle.std.proofs.Common.{◌∷◌, ◌+◌, drop, ap, refl, ◌∙◌}
use Rattle.som_model.specs.Class.{introduced}
use Rattle.som_order.specs.Names.{texts}
use Rattle.som_sema_scope.proofs.Going.{next_none, next_value, rest_end}
use Rattle.som_sema_drafts.proofs.names.introduced_names.Goals as goal
use Rattle.som_sema_drafts.proofs.names.introduced_names.Goals.{in-Introduced+in_ok-add, in_default}

pub loop-entry-preserved : goal.loop-entry-preserved
loop-entry-preserved c = elim c.match-entry.branch [
  | in-Introduced+in_ok-add w ↦ next_value introduced c.args.entries.now c.loop-entry.entry-index _ _ (texts c.loop-entry.names.items) _ _ _ _
      c.loop-entry-test.true c.entry-item.is (ap (λ v. texts v.items) w.names-is ∙ w.in_ok-add.ensures.ok) w.as_slice.ensures
      (ap (λ z. introduced (z ∷ drop (c.loop-entry.entry-index + 1) c.args.entries.now)) w.in-Introduced.is) c.loop-entry.invariant
  | in_default w ↦ next_none introduced c.args.entries.now c.loop-entry.entry-index _ _ (texts c.loop-entry.names.items) _ _
      c.loop-entry-test.true c.entry-item.is (ap (λ v. texts v.items) w.names-is)
      (ap (λ z. introduced (z ∷ drop (c.loop-entry.entry-index + 1) c.args.entries.now)) w.in_default.is) c.loop-entry.invariant
]

pub returns : goal.returns
returns c = rest_end introduced c.args.entries.now c.loop-entry.entry-index _ _ c.loop-entry-test.false refl c.loop-entry.invariant
