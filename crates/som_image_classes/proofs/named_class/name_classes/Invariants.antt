use Rattle.std.proofs.Common.{◌≡◌, length}
use Rattle.som_image_classes.specs.NamedClasses.{classes_of, with_selects}
use Rattle.som_image_classes.proofs.named_class.name_classes.Given as goal

-- the classes so far
abbrev pub invariant-loop-part : goal.invariant-loop-part
invariant-loop-part l = record {
  so_far : l.named ≡ with_selects l.directory l.first l.selects (classes_of l.directory l.faces l.yielded);
  many : length l.named ≡ length l.yielded;
}
