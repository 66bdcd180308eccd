use Rattle.std.proofs.Common.{◌≡◌, map, take}
use Rattle.som_image_encode.specs.NumberedClasses.{override_numbered}
use Rattle.som_image_encode.proofs.numbered_part.number_overrides.Given as goal

abbrev pub invariant-loop-replaced : goal.invariant-loop-replaced
invariant-loop-replaced l = l.numbered ≡ map (override_numbered l.directory) (take l.replaced-index l.overrides)
