use Rattle.std.proofs.Common.{◌≡◌, drop, map}
use Rattle.som_model.specs.Lists.{first}
use Rattle.som_order.specs.Names.{texts}
use Rattle.som_sema_local.specs.OwnRules.{said}
use Rattle.som_sema_drafts.specs.Items.{given_by}
use Rattle.som_sema_local.specs.OwnRules.{misplaced}
use Rattle.som_sema_local.proofs.modifiers.misplaced_after.Given as goal

abbrev pub invariant-loop-mark : goal.invariant-loop-mark
invariant-loop-mark l = first (misplaced (texts l.own.keys) (texts l.replaced.keys) (said l.before) (map given_by (drop l.mark-index l.marks)))
    ≡ first (misplaced (texts l.own.keys) (texts l.replaced.keys) (said l.fn.before) (map given_by l.marks))
