use Rattle.std.proofs.Common.{◌≡◌, ◌++◌, drop, map}
use Rattle.som_order.specs.Names.{texts}
use Rattle.som_verify_classes.specs.Modules.{classes_of}
use Rattle.som_verify_classes.specs.Places.{key_at, with_kernel}
use Rattle.som_sema_decls.specs.Finished.{select_of}
use Rattle.som_sema_decls.specs.Selecting.{choice_of}
use Rattle.som_sema_decls.proofs.selected.each_select.Given as goal

abbrev pub invariant-loop-choice : goal.invariant-loop-choice
invariant-loop-choice l =
    l.all ++ map (select_of (with_kernel (classes_of l.classes)) (key_at (with_kernel (classes_of l.classes)) l.place) (texts l.parents)) (map choice_of (drop l.choice-index l.choices))
    ≡ map (select_of (with_kernel (classes_of l.classes)) (key_at (with_kernel (classes_of l.classes)) l.place) (texts l.parents)) (map choice_of l.choices)
