use Rattle.std.proofs.Common.{List, subst}
use Rattle.som_model.specs.declared.program.Interface.{Interface}
use Rattle.som_level_laws.specs.Levels.{first_level_break}
use Rattle.som_compat_levels.specs.Told.{TellsLevels}
use Rattle.som_compat_levels.proofs.Leveling.{kept_levels}
use Rattle.som_compat_levels.proofs.levels.compare_all.Goals as goal

pub returns-clause-kept : goal.returns-clause-kept
returns-clause-kept c = kept_levels c.args.olds.now c.args.news.now c.compare_above.result c.requires
    (subst (λ (z : List Interface). TellsLevels (first_level_break c.args.olds.now z) c.compare_above.result) c.as_slice-2.ensures
    (subst (λ (z : List Interface). TellsLevels (first_level_break z c.as_slice-2.result.now) c.compare_above.result) c.as_slice.ensures c.compare_above.ensures))
