use Rattle.som_release_laws.proofs.Loading.{loadable_both}
use Rattle.som_level_programs.specs.ByLevels.{main_by_level, own_by_level}
use Rattle.som_flat_laws.specs.Flat.{levels_by_owners, sizes_of}
use Rattle.som_flat_laws.proofs.FlatPrograms.{below_are, flat_compiled, flat_kept}
use Rattle.som_flat_laws.proofs.laws.flat_program_law.Goals as goal

pub returns-clause-compiled : goal.returns-clause-compiled
returns-clause-compiled c is p client f same ok have = flat_compiled is f p client same ok have

pub returns-clause-below : goal.returns-clause-below
returns-clause-below c is p client f same ok have = below_are is f p client same ok have

pub returns-clause-kept : goal.returns-clause-kept
returns-clause-kept c is news f fn k = flat_kept is f news fn k

pub returns-clause-loadable : goal.returns-clause-loadable
returns-clause-loadable c is p client news f same ok have l k others =
    let kept = flat_kept is f news l.faces k in
    loadable_both (levels_by_owners is) news (own_by_level (sizes_of is) client p) (main_by_level (sizes_of is) client p) (flat_compiled is f p client same ok have) l kept.0 kept.1 others
