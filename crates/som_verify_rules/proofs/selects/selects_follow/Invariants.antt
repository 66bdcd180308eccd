use Rattle.std.proofs.Common.{◌≡◌, drop, map}
use Rattle.som_model.specs.Lists.{first}
use Rattle.som_verify_classes.specs.Inherited.{method_of, selects_from}
use Rattle.som_verify_classes.specs.Modules.{class_of, classes_of}
use Rattle.som_verify_classes.specs.Places.{key_at, with_kernel}
use Rattle.som_verify_rules.proofs.selects.selects_follow.Given as goal

abbrev pub invariant-loop-item : goal.invariant-loop-item
invariant-loop-item l =
    first (selects_from (with_kernel (classes_of l.classes)) (key_at (with_kernel (classes_of l.classes)) l.place) (class_of l.class) (map method_of l.before.items) (drop l.item-index l.class.decl.now.selects))
    ≡ first (selects_from (with_kernel (classes_of l.classes)) (key_at (with_kernel (classes_of l.classes)) l.place) (class_of l.class) (map method_of l.fn.before.items) l.class.decl.now.selects)
