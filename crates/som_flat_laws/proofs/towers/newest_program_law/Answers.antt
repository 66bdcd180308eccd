use Rattle.std.proofs.Common.{[], ◌∷◌, ◌++◌}
use Rattle.som_level_laws.proofs.Along.{at_end}
use Rattle.som_level_programs.proofs.TowersLoad.{client_loads}
use Rattle.som_flat_laws.specs.AcceptedTower.{interfaces_of}
use Rattle.som_flat_laws.proofs.NewestTowers.{made_stands, tower_stands}
use Rattle.som_flat_laws.proofs.towers.newest_program_law.Goals as goal

pub returns-clause-stands : goal.returns-clause-stands
returns-clause-stands c before last uppers newest t n l m = made_stands (before ++ last ∷ []) uppers (interfaces_of last newest) (tower_stands before last uppers newest t n).0 l m

pub returns-clause-loads : goal.returns-clause-loads
returns-clause-loads c before last uppers newest t n have l m =
    let s = tower_stands before last uppers newest t n in
    client_loads last newest l (t.lowest_accepted.conform last (at_end before last)) have s.1 (made_stands (before ++ last ∷ []) uppers (interfaces_of last newest) s.0 l m)
