use Rattle.std.proofs.Common.{◌≡◌, ◌++◌, drop, map}
use Rattle.som_sema_decls.specs.Finished.{entry_for}
use Rattle.som_verify_classes.specs.Modules.{classes_of}
use Rattle.som_verify_classes.specs.Places.{key_at, with_kernel}
use Rattle.som_sema_decls.proofs.declared.entries_in_order.Given as goal

abbrev pub invariant-loop-name : goal.invariant-loop-name
invariant-loop-name l =
    l.all ++ map (entry_for (with_kernel (classes_of l.classes)) (key_at (with_kernel (classes_of l.classes)) l.place) l.own) (drop l.name-index l.order)
    ≡ map (entry_for (with_kernel (classes_of l.classes)) (key_at (with_kernel (classes_of l.classes)) l.place) l.own) l.order
