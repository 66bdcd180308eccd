use Rattle.std.proofs.Common.{◌≡◌, drop}
use Rattle.som_sema_drafts.specs.Items.{number_of, minor_in}
use Rattle.som_sema_local.proofs.single.minor.Given as goal

abbrev pub invariant-loop-item : goal.invariant-loop-item
invariant-loop-item l = number_of minor_in (drop l.item-index l.items) ≡ number_of minor_in l.items
