use Rattle.std.proofs.Common.{◌≡◌, map, take}
use Rattle.som_image_classes.specs.NamedClasses.{entry_named}
use Rattle.som_image_classes.proofs.named_face.name_entries.Given as goal

abbrev pub invariant-loop-entry : goal.invariant-loop-entry
invariant-loop-entry l = l.named ≡ map (entry_named l.keys) (take l.entry-index l.entries)
