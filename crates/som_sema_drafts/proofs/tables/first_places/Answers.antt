use Rattle.std.proofs.Common.{ap, ◌∙◌}
use Rattle.som_order.specs.Names.{texts}
use Rattle.som_sema_scope.proofs.OneTable.{kept_new, kept_old, once_all, once_more}
use Rattle.som_sema_drafts.proofs.tables.first_places.Goals as goal
use Rattle.som_sema_drafts.proofs.tables.first_places.Goals.{then-branch+in_ok-add, else-branch}

pub loop-name-preserved : goal.loop-name-preserved
loop-name-preserved c = record {
  rest = once_more c.args.names.now c.loop-name.name-index _ _ _ _ _ c.loop-name-test.true c.in_ok-note_name.ensures.is_new c.in_ok-note_name.ensures.keys c.loop-name.invariant.rest;
  kept = elim c.if-branch.branch [
    | then-branch+in_ok-add w ↦ kept_new _ _ _ _ _ _ w.if-branch.true c.in_ok-note_name.ensures.keys (ap (λ v. texts v.items) w.first-is ∙ w.in_ok-add.ensures.ok) c.loop-name.invariant.kept
    | else-branch w ↦ kept_old _ _ _ _ _ _ w.if-branch.false c.in_ok-note_name.ensures.keys (ap (λ v. texts v.items) w.first-is) c.loop-name.invariant.kept
  ];
}

pub returns : goal.returns
returns c = c.loop-name.invariant.kept ∙ once_all c.args.names.now c.loop-name.name-index _ _ c.loop-name-test.false c.loop-name.invariant.rest
