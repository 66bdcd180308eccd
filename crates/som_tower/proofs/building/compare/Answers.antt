use Rattle.som_compat_levels.proofs.Leveling.{same_keep}
use Rattle.som_level_programs.specs.ByLevels.{levels_below}
use Rattle.som_tower.proofs.building.compare.Goals as goal

pub returns-then-are_levels_below-clause-tells : goal.returns-then-are_levels_below-clause-tells
returns-then-are_levels_below-clause-tells c =
    let m = c.args.modules.now in
    (same_keep (levels_below m.sizes m.client m.base) c.args.below.now c.requires (c.are_levels_below.ensures c.if-are_levels_below.true)).0

pub returns-then-are_levels_below-clause-kept : goal.returns-then-are_levels_below-clause-kept
returns-then-are_levels_below-clause-kept c =
    let m = c.args.modules.now in
    (same_keep (levels_below m.sizes m.client m.base) c.args.below.now c.requires (c.are_levels_below.ensures c.if-are_levels_below.true)).1
