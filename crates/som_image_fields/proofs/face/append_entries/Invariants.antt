use Rattle.std.proofs.Common.{◌≡◌, ◌++◌, take}
use Rattle.std.specs.List.{flat_map}
use Rattle.som_image_fields.specs.Spelling.{entry}
use Rattle.som_image_fields.proofs.face.append_entries.Given as goal

abbrev pub invariant-loop-entry : goal.invariant-loop-entry
invariant-loop-entry l = l.out ≡ l.fn.out ++ flat_map entry (take l.entry-index l.entries)
