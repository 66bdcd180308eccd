use Rattle.std.proofs.Common.{◌≡◌, ◌++◌, drop, flat_map}
use Rattle.som_order.specs.Names.{texts}
use Rattle.som_ast.specs.declared.words.Word.{Word}
use Rattle.som_sema_drafts.specs.Drafts.{accessors}
use Rattle.som_sema_local.proofs.exports.add_accessors.Given as goal

abbrev pub invariant-loop-word : goal.invariant-loop-word
invariant-loop-word l = l.entries ++ flat_map (λ (w : Word). accessors (texts l.by_name.keys) l.readonly l.kind w.text) (drop l.word-index l.names)
    ≡ l.fn.entries ++ flat_map (λ (w : Word). accessors (texts l.by_name.keys) l.readonly l.kind w.text) l.names
