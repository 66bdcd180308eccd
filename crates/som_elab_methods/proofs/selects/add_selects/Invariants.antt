use Rattle.std.proofs.Common.{◌≡◌, ◌+◌, drop, flat_map, length}
use Rattle.som_sema_drafts.specs.Items.{chosen_in}
use Rattle.som_elab_methods.proofs.selects.add_selects.Given as goal

abbrev pub invariant-loop-modifier : goal.invariant-loop-modifier
invariant-loop-modifier l = length l.all.items + length (flat_map (chosen_in l._name) (drop l.modifier-index l.modifiers)) ≡ length l.fn.all.items + length (flat_map (chosen_in l._name) l.modifiers)
