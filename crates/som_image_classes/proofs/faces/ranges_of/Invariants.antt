use Rattle.std.proofs.Common.{◌≡◌, ◌∷◌, length, map, take}
use Rattle.som_image_classes.proofs.faces.ranges_of.Given as goal

-- the numbers of entries of the kernel's classes and of those so far
abbrev pub invariant-loop-face : goal.invariant-loop-face
invariant-loop-face l = l.entries ≡ 9 ∷ 6 ∷ 1 ∷ 2 ∷ map (λ f. length f.entries) (take l.face-index l.faces)
