use Rattle.std.proofs.Common.{◌≡◌, map, take}
use Rattle.som_image_encode.specs.NumberedClasses.{part_numbered}
use Rattle.som_image_encode.proofs.numbered_classes.number_parts.Given as goal

abbrev pub invariant-loop-class : goal.invariant-loop-class
invariant-loop-class l = l.parts ≡ map (part_numbered l.directory) (take l.class-index l.classes)
