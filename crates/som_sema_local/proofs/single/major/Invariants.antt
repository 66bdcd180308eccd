use Rattle.std.proofs.Common.{◌≡◌, drop}
use Rattle.som_sema_drafts.specs.Items.{number_of, major_in}
use Rattle.som_sema_local.proofs.single.major.Given as goal

abbrev pub invariant-loop-item : goal.invariant-loop-item
invariant-loop-item l = number_of major_in (drop l.item-index l.items) ≡ number_of major_in l.items
