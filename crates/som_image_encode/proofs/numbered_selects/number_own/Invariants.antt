use Rattle.std.proofs.Common.{◌≡◌, map, take}
use Rattle.som_image_encode.specs.NumberedClasses.{select_numbered}
use Rattle.som_image_encode.proofs.numbered_selects.number_own.Given as goal

abbrev pub invariant-loop-select : goal.invariant-loop-select
invariant-loop-select l = l.numbered ≡ map (select_numbered l.directory) (take l.select-index l.selects)
