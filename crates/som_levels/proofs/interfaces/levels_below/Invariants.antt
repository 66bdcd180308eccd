use Rattle.std.proofs.Common.{◌≡◌, ◌+◌, ◌++◌, drop, length, map, sum}
use Rattle.som_level_programs.specs.ByLevels.{split}
use Rattle.som_levels.proofs.Below.{by_level}
use Rattle.som_levels.proofs.interfaces.levels_below.Given as goal

abbrev pub invariant-loop-size : goal.invariant-loop-size
invariant-loop-size l = record {
  done : l.levels ++ map (by_level l.modules) (split (drop l.size-index l.modules.sizes) (drop l.place l.modules.base.classes)) ≡ map (by_level l.modules) (split l.modules.sizes l.modules.base.classes);
  left : l.place + sum (drop l.size-index l.modules.sizes) ≡ length l.modules.base.classes;
}
