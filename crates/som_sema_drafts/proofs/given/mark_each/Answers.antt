use Rattle.std.proofs.Common.{map, ap}
use Rattle.som_ast.specs.declared.interface.Modifier.{Modifier}
use Rattle.som_sema_drafts.specs.Items.{given_by}
use Rattle.som_sema_scope.proofs.Going.{map_end, map_next, pushed}
use Rattle.som_sema_drafts.proofs.given.mark_each.Goals as goal

pub loop-modifier-preserved : goal.loop-modifier-preserved
loop-modifier-preserved c =
    map_next (λ (m : Modifier). record { method = c.args.method.now; modifier = m }) c.args.modifiers.now c.loop-modifier.modifier-index _ (map given_by c.loop-modifier.marks.items) _ _ _
    c.loop-modifier-test.true (pushed given_by _ _ _ c.in_ok-push.ensures.items)
    (ap (λ (m : Modifier). record { method = c.args.method.now; modifier = m }) c.modifier-item.is) c.loop-modifier.invariant

pub returns : goal.returns
returns c = map_end (λ (m : Modifier). record { method = c.args.method.now; modifier = m }) c.args.modifiers.now c.loop-modifier.modifier-index _ _ c.loop-modifier-test.false c.loop-modifier.invariant
