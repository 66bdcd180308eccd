use Rattle.std.proofs.Common.{◌≡◌, ◌∷◌, [], None, map, take}
use Rattle.som_model.specs.Class.{interface_of}
use Rattle.som_tower.specs.Standing.{AreBuilt}
use Rattle.som_tower.specs.Towers.{plain, tower_break}
use Rattle.som_tower.proofs.laying.build.Given as goal

abbrev pub invariant-loop-level : goal.invariant-loop-level
invariant-loop-level l = record {
  built : AreBuilt l.base (take l.level-index l.uppers) l.built.interfaces l.built.classes;
  none : tower_break (interface_of l.base ∷ []) (map plain (take l.level-index l.uppers)) ≡ None;
}
