use Rattle.std.proofs.Common.{◌≡◌, ◌++◌, drop, map}
use Rattle.som_order.specs.Names.{texts}
use Rattle.som_sema_decls.specs.Finished.{override_of}
use Rattle.som_verify_classes.specs.Modules.{classes_of}
use Rattle.som_verify_classes.specs.Places.{key_at, with_kernel}
use Rattle.som_sema_decls.proofs.declared.each_override.Given as goal

abbrev pub invariant-loop-name : goal.invariant-loop-name
invariant-loop-name l =
    l.all ++ map (override_of (with_kernel (classes_of l.classes)) (key_at (with_kernel (classes_of l.classes)) l.place)) (texts (drop l.name-index l.names))
    ≡ map (override_of (with_kernel (classes_of l.classes)) (key_at (with_kernel (classes_of l.classes)) l.place)) (texts l.names)
