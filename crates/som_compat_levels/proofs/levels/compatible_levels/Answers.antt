use Rattle.som_compat_levels.proofs.Leveling.{same_keep}
use Rattle.som_compat_levels.proofs.levels.compatible_levels.Goals as goal

pub returns-then-are_same-clause-tells : goal.returns-then-are_same-clause-tells
returns-then-are_same-clause-tells c = (same_keep c.args.olds.now c.args.news.now c.requires (c.are_same.ensures c.if-are_same.true)).0

pub returns-then-are_same-clause-kept : goal.returns-then-are_same-clause-kept
returns-then-are_same-clause-kept c = (same_keep c.args.olds.now c.args.news.now c.requires (c.are_same.ensures c.if-are_same.true)).1
