use Rattle.std.proofs.Common.{◌≡◌, map, take}
use Rattle.som_model.specs.Class.{entry_name}
use Rattle.som_image_decode.proofs.directory.entry_names.Given as goal

abbrev pub invariant-loop-entry : goal.invariant-loop-entry
invariant-loop-entry l = l.names ≡ map entry_name (take l.entry-index l.entries)
