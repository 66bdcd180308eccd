use Rattle.som_level_programs.proofs.LevelsStand.{tower_stands}
use Rattle.som_level_programs.proofs.standing.tower_faces_law.Goals as goal

pub returns : goal.returns
returns c = tower_stands
