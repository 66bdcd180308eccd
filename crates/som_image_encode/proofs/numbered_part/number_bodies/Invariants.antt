use Rattle.std.proofs.Common.{◌≡◌, map, take}
use Rattle.som_image_encode.specs.NumberedClasses.{body_numbered}
use Rattle.som_image_encode.proofs.numbered_part.number_bodies.Given as goal

abbrev pub invariant-loop-body : goal.invariant-loop-body
invariant-loop-body l = l.numbered ≡ map (body_numbered l.directory) (take l.body-index l.bodies)
