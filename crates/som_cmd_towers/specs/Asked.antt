-- What is asked of towers of libraries.
use Rattle.std.specs.Prelude.{ℕ, ◌≤◌, List, length}
use Rattle.som_sources.specs.Sources.{mains_in}
use Rattle.som_towerimage.specs.declared.level.TheConstants.{MAX_BELOW_CLIENT}
use Rattle.som_towerimage.specs.Spelling.{most_below}
use Rattle.som_cmd_tower_make.specs.TowerMakeAnswer.{has_main}
use Rattle.som_cmd_towers.specs.declared.command.TowerCommand.{TowerCommand}
use Rattle.som_cmd_towers.specs.declared.command.TowerCommand.TheVariants as commands

-- to compile texts to a level, or with a main to a client, above the libraries under these names, from the lowest up, and put its image; to compare two libraries
-- with the levels below them; to run a client on the libraries under these names with so much fuel
pub data TowerAsked : Type 0 where
  Make : (out : List ℕ) (below files : List (List ℕ)) → TowerAsked
  Compare : (old new : List ℕ) → TowerAsked
  RunOn : (client : List ℕ) (below : List (List ℕ)) (fuel : ℕ) → TowerAsked

-- what a command of the code asks for
abbrev pub tower_by : TowerCommand → TowerAsked
tower_by (commands.Make out below files) = Make out.now below.now files.now
tower_by (commands.Check old new) = Compare old.now new.now
tower_by (commands.Run client below fuel) = RunOn client.now below.now fuel

-- there is a level below and not too many, a level more below a client, and one of the files at most has a main
pub record CanBeMade (below files : List (List ℕ)) : Type 0 where
  pub one_main : mains_in files ≤ 1
  pub some : 1 ≤ length below
  pub few : length below ≤ most_below (has_main files)

-- there is a level below and not too many
pub record CanBeBelow (below : List (List ℕ)) : Type 0 where
  pub some : 1 ≤ length below
  pub few : length below ≤ MAX_BELOW_CLIENT

-- as many names and mains as its form has
abbrev pub IsFormed : TowerAsked → Type 0
IsFormed (Make out below files) = CanBeMade below files
IsFormed (Compare old new) = Unit {0}
IsFormed (RunOn client below fuel) = CanBeBelow below
