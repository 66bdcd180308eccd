use Rattle.std.proofs.Common.{◌≡◌, ◌++◌, drop, map}
use Rattle.som_sema_drafts.specs.Items.{given_by}
use Rattle.som_ast.specs.declared.interface.Modifier.{Modifier}
use Rattle.som_sema_drafts.proofs.given.mark_each.Given as goal

abbrev pub invariant-loop-modifier : goal.invariant-loop-modifier
invariant-loop-modifier l =
    map given_by l.marks.items ++ map (λ (m : Modifier). record { method = l.method; modifier = m }) (drop l.modifier-index l.modifiers)
    ≡ map given_by l.fn.marks.items ++ map (λ (m : Modifier). record { method = l.method; modifier = m }) l.modifiers
