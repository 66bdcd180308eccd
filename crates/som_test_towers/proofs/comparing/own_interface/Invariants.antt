use Rattle.std.proofs.Common.{◌≡◌, map, take}
use Rattle.som_model.specs.declared.class.ClassDecl.{ClassDecl}
use Rattle.som_level_programs.specs.ByLevels.{level_change}
use Rattle.som_rekey_laws.specs.Rekeying.{rekey_face}
use Rattle.som_test_towers.proofs.comparing.own_interface.Given as goal

abbrev pub invariant-loop-class : goal.invariant-loop-class
invariant-loop-class l = l.classes ≡ map (λ (d : ClassDecl). rekey_face (level_change l.modules.sizes l.modules.client l.modules.base) d.face) (take l.class-index l.level.program.classes)
