use Rattle.std.proofs.Common.{◌≡◌, ◌++◌, drop, map}
use Rattle.som_compat_levels.specs.Standing.{classes_of}
use Rattle.som_model.specs.Class.{bare, class_in}
use Rattle.som_compat_levels.proofs.classes.add_faces.Given as goal

abbrev pub invariant-loop-face : goal.invariant-loop-face
invariant-loop-face l = classes_of l.all.items ++ map (λ f. class_in l.home (bare f)) (drop l.face-index l.faces) ≡ classes_of l.fn.all.items ++ map (λ f. class_in l.home (bare f)) l.faces
