use Rattle.std.proofs.Common.{◌++◌, ap, arith, map}
use Rattle.som_level_programs.specs.ByLevels.{split}
use Rattle.som_levels.proofs.Below.{by_level}
use Rattle.som_levels.proofs.interfaces.levels_below.Goals as goal

pub loop-size-init : goal.loop-size-init
loop-size-init c =
    let all = c.sizes.ensures.flat.all in
    record {
      done = ap (λ l. l ++ map (by_level c.args.modules.now) (split c.args.modules.now.sizes c.args.modules.now.base.classes)) c.new-levels.ensures;
      left = omega (arith, all);
    }
