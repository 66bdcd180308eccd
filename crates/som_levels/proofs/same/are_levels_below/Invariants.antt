use Rattle.std.proofs.Common.{◌≡◌, ◌+◌, ◌++◌, drop, length, map, sum, take}
use Rattle.som_level_programs.specs.ByLevels.{split}
use Rattle.som_levels.proofs.Below.{by_level}
use Rattle.som_levels.proofs.same.are_levels_below.Given as goal

abbrev pub invariant-loop-i : goal.invariant-loop-i
invariant-loop-i l = record {
  done : take l.i l.levels ++ map (by_level l.modules) (split (drop l.i l.modules.sizes) (drop l.place l.modules.base.classes)) ≡ map (by_level l.modules) (split l.modules.sizes l.modules.base.classes);
  left : l.place + sum (drop l.i l.modules.sizes) ≡ length l.modules.base.classes;
}
