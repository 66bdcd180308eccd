use Rattle.std.proofs.Common.{◌≡◌, map, take}
use Rattle.som_class_ids.specs.Classes.{classes_of}
use Rattle.som_model.specs.Class.{class_in}
use Rattle.som_model.specs.declared.key.Module.TheVariants as modules
use Rattle.som_tower.proofs.library.keyed_library.Given as goal

abbrev pub invariant-loop-decl : goal.invariant-loop-decl
invariant-loop-decl l = classes_of l.all ≡ map (class_in modules.Library) (take l.decl-index l.base.classes)
