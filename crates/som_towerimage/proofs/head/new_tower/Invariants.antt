use Rattle.std.proofs.Common.{◌≡◌, ◌++◌, length, take}
use Rattle.std.specs.Prelude.{codes}
use Rattle.std.specs.List.{flat_map}
use Rattle.std.specs.Int.{w8, w16}
use Rattle.som_image_fields.specs.Spelling.{number}
use Rattle.som_image_classes.specs.SpelledClasses.{head}
use Rattle.som_towerimage.specs.Spelling.{flag}
use Rattle.som_towerimage.proofs.head.new_tower.Given as goal

-- the head so far
abbrev pub invariant-loop-size : goal.invariant-loop-size
invariant-loop-size l = l.image ≡ head (codes "SOMT") 1 ++ (number w8 (length l.sizes) ++ (flag l.client ++ flat_map (number w16) (take l.size-index l.sizes)))
