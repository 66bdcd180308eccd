use Rattle.std.proofs.Common.{◌≡◌, map, take}
use Rattle.som_image_encode.specs.NumberedClasses.{entry_numbered}
use Rattle.som_image_encode.proofs.numbered_face.number_entries.Given as goal

abbrev pub invariant-loop-entry : goal.invariant-loop-entry
invariant-loop-entry l = l.numbered ≡ map (entry_numbered l.directory.keys) (take l.entry-index l.entries)
