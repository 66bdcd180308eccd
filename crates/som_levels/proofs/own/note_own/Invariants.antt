use Rattle.std.proofs.Common.{◌≡◌, ◌++◌, length, map, take}
use Rattle.som_class_ids.specs.Classes.{classes_of}
use Rattle.som_level_programs.specs.ByLevels.{level_change, own_module}
use Rattle.som_model.specs.Class.{class_in}
use Rattle.som_rekey_laws.specs.Rekeying.{rekey_decl}
use Rattle.som_levels.proofs.own.note_own.Given as goal

abbrev pub invariant-loop-class : goal.invariant-loop-class
invariant-loop-class l =
    classes_of l.all ≡ classes_of l.fn.all
    ++ map (λ d. class_in (own_module (length l.modules.sizes) l.modules.client) (rekey_decl (level_change l.modules.sizes l.modules.client l.modules.base) d)) (take l.class-index l.program.classes)
