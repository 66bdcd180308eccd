use Rattle.std.proofs.Common.{◌≡◌, ◌++◌, drop}
use Rattle.som_order.specs.Names.{texts}
use Rattle.som_sema_scope.specs.Words.{words}
use Rattle.som_sema_drafts.proofs.items.add_words.Given as goal

abbrev pub invariant-loop-word : goal.invariant-loop-word
invariant-loop-word l = texts l.names.items ++ words (drop l.word-index l.list) ≡ texts l.fn.names.items ++ words l.list
