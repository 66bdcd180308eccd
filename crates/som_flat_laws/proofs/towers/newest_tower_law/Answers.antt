use Rattle.som_flat_laws.proofs.NewestTowers.{tower_stands}
use Rattle.som_flat_laws.proofs.towers.newest_tower_law.Goals as goal

pub returns-clause-stacked : goal.returns-clause-stacked
returns-clause-stacked c before last uppers newest t n = (tower_stands before last uppers newest t n).1

pub returns-clause-load : goal.returns-clause-load
returns-clause-load c before last uppers newest t n = (tower_stands before last uppers newest t n).0.load

pub returns-clause-chosen : goal.returns-clause-chosen
returns-clause-chosen c before last uppers newest t n = (tower_stands before last uppers newest t n).0.kept
