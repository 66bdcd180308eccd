use Rattle.std.proofs.Common.{◌≡◌, ◌++◌, drop, flat_map, map}
use Rattle.som_sema_drafts.specs.Items.{chosen_by, given_by}
use Rattle.som_sema_decls.specs.Selecting.{choice_of}
use Rattle.som_sema_decls.proofs.selected.choices.Given as goal

abbrev pub invariant-loop-mark : goal.invariant-loop-mark
invariant-loop-mark l = map choice_of l.all.items ++ flat_map chosen_by (map given_by (drop l.mark-index l.marks)) ≡ flat_map chosen_by (map given_by l.marks)
