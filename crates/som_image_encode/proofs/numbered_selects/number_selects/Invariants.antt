use Rattle.std.proofs.Common.{◌≡◌, ◌+◌, take}
use Rattle.som_image_encode.specs.NumberedClasses.{selects_numbered}
use Rattle.som_image_encode.proofs.numbered_selects.number_selects.Given as goal

abbrev pub invariant-loop-class : goal.invariant-loop-class
invariant-loop-class l = (l.numbered ≡ selects_numbered l.directory l.first (take l.class-index l.classes)) × (l.number ≡ l.first + l.class-index)
