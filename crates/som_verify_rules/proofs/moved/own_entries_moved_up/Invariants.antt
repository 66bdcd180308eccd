use Rattle.std.proofs.Common.{◌≡◌, drop, flat_map}
use Rattle.som_model.specs.Lists.{first}
use Rattle.som_verify_classes.specs.Inherited.{moved_entry}
use Rattle.som_verify_classes.specs.Modules.{class_of, classes_of}
use Rattle.som_verify_classes.specs.Places.{key_at, with_kernel}
use Rattle.som_verify_rules.proofs.moved.own_entries_moved_up.Given as goal

abbrev pub invariant-loop-entry : goal.invariant-loop-entry
invariant-loop-entry l = first (flat_map (moved_entry (with_kernel (classes_of l.classes)) (key_at (with_kernel (classes_of l.classes)) l.place) (class_of l.class)) (drop l.entry-index l.class.decl.now.face.entries))
    ≡ first (flat_map (moved_entry (with_kernel (classes_of l.classes)) (key_at (with_kernel (classes_of l.classes)) l.place) (class_of l.class)) l.class.decl.now.face.entries)
