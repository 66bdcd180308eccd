use Rattle.std.proofs.Common.{◌≡◌, ◌++◌, drop}
use Rattle.som_order.specs.Names.{texts}
use Rattle.som_sema_drafts.specs.Items.{item_words}
use Rattle.som_sema_local.proofs.single.item_words.Given as goal

abbrev pub invariant-loop-item : goal.invariant-loop-item
invariant-loop-item l = texts l.names.items ++ item_words (drop l.item-index l.items) ≡ item_words l.items
