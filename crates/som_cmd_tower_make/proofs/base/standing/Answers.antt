use Rattle.std.proofs.Common.{List, [], ◌∷◌, map}
use Rattle.som_model.specs.declared.program.Interface.{Interface}
use Rattle.som_model.specs.Class.{interface_of}
use Rattle.som_tower.specs.Towers.{plain, tower_break}
use Rattle.som_cmd_tower_make.proofs.SoundBases.{level_named, told_breach}
use Rattle.som_cmd_tower_make.proofs.base.standing.Goals as goal

pub refuse_level-requires : goal.refuse_level-requires
refuse_level-requires c =
    level_named c.breach_level_law.ensures c.args.names.now c.args.below.now c.in-Err-Breach.breach c.requires.levels c.requires.conform c.requires.few
    (told_breach (List Interface) (tower_break (interface_of c.args.below.now.base ∷ []) (map plain c.args.below.now.uppers)) c.in-Err-Breach.field-0 c.in-Err-Breach.breach c.in-Err-Breach.field-0-is c.in-Err-Breach.ensures.tells)
