use Rattle.std.proofs.Common.{◌≡◌, ◌++◌, drop, map}
use Rattle.som_sema_drafts.specs.Items.{given, given_by}
use Rattle.som_sema_drafts.proofs.given.marks.Given as goal

abbrev pub invariant-loop-item : goal.invariant-loop-item
invariant-loop-item l = map given_by l.marks.items ++ given (drop l.item-index l.items) ≡ given l.items
