use Rattle.std.proofs.Common.{◌≡◌, map, take}
use Rattle.som_model.specs.declared.key.Module.TheVariants as modules
use Rattle.som_model.specs.Class.{bare, class_in}
use Rattle.som_class_ids.specs.Classes.{classes_of}
use Rattle.som_class_table.proofs.kernel.classes_of_faces.Given as goal

abbrev pub invariant-loop-face : goal.invariant-loop-face
invariant-loop-face l = classes_of l.classes ≡ map (λ f. class_in modules.Kernel (bare f)) (take l.face-index l.faces)
