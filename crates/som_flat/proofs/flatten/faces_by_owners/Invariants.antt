use Rattle.std.proofs.Common.{◌≡◌, ◌++◌, drop, map}
use Rattle.som_compat_levels.specs.Standing.{classes_of}
use Rattle.som_flat.specs.FlatFaces.{flat_face_of}
use Rattle.som_flat.proofs.flatten.faces_by_owners.Given as goal

abbrev pub invariant-loop-place : goal.invariant-loop-place
invariant-loop-place l =
    l.faces ++ map (flat_face_of (classes_of l.classes)) (drop l.place (classes_of l.classes)) ≡ map (flat_face_of (classes_of l.classes)) (drop 4 (classes_of l.classes))
