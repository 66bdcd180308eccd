use Rattle.std.proofs.Common.{◌≡◌, drop}
use Rattle.std.specs.Str.{bytes_eq}
use Rattle.som_model.specs.Lists.{doubles, first}
use Rattle.som_order.specs.Names.{texts}
use Rattle.som_sema_scope.specs.Words.{words}
use Rattle.som_elab_body.proofs.body.has_double_after.Given as goal

abbrev pub invariant-loop-word : goal.invariant-loop-word
invariant-loop-word l = first (doubles bytes_eq (texts l.seen.keys) (words (drop l.word-index l.words))) ≡ first (doubles bytes_eq (texts l.fn.seen.keys) (words l.words))
