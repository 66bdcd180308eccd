use Rattle.std.proofs.Common.{◌≡◌, map, take}
use Rattle.som_image_decode.specs.Naming.{name_in}
use Rattle.som_image_decode.proofs.directory.wire_names.Given as goal

abbrev pub invariant-loop-entry : goal.invariant-loop-entry
invariant-loop-entry l = l.names ≡ map name_in (take l.entry-index l.entries)
