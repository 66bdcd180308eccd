-- Calls of the commands on towers, and what the store holds before them.
use Rattle.std.specs.Prelude.{◌≡◌, ℕ, List, ◌∷◌, Option, Some}
use Rattle.som_model.specs.declared.program.Release.{Release}
use Rattle.som_model.specs.Bytes.{Files}
use Rattle.som_sources.specs.declared.source.Source.{Source}
use Rattle.som_towerimage.specs.declared.level.Level.{Level}
use Rattle.som_cmd_tower_check.specs.TowerCheckEnds.{AreLibrariesUnder}
use Rattle.som_cmd_tower_make.specs.TowerMakeEnds.{HoldsLevelTexts}
use Rattle.som_cmd_tower_make.specs.TowerMakeEnds as making
use Rattle.som_cmd_tower_run.specs.TowerNewest.{HoldsNewestTower}
use Rattle.som_cmd_tower_run.specs.TowerRunEnds.{IsTowerUnder}
use Rattle.som_cmd_towers.specs.Asked.{Make, Compare, RunOn}
use Rattle.som_cmd.specs.Words.{Asked, Tower}

-- ---- runs

-- a run of a client of a tower is asked for, with so much fuel, and the store holds its image and those of the levels below it, which conform
pub record AreTowerImagesOf (asked : Asked) (files : Option Files) (below : List (List ℕ)) (base : Release) (uppers : List Level) (c : Level) (fuel : ℕ) : Type 0 where
  pub told : Files
  pub files_are : files ≡ Some told
  pub client : List ℕ
  pub asked_is : asked ≡ Tower (RunOn client below fuel)
  pub images : IsTowerUnder told client below base uppers c

-- a run of a client of a tower is asked for, with so much fuel, and the store holds the image of one that was compiled from these texts against any members of accepted lists of releases, and those of the newest of each list
pub record IsNewestTower (asked : Asked) (files : Option Files) (earlier : List Release) (base : Release) (lists : List (List Level)) (newest : List Level) (texts : List Source) (c : Level) (fuel : ℕ) : Type 0 where
  pub told : Files
  pub files_are : files ≡ Some told
  pub client : List ℕ
  pub below : List (List ℕ)
  pub asked_is : asked ≡ Tower (RunOn client below fuel)
  pub images : HoldsNewestTower told client below earlier base lists newest texts c

-- ---- comparing

-- two libraries are to be compared, the newer one under this name, and the store holds their tower images, which have as many levels below, and conform
pub record AreLevelsCompared (asked : Asked) (files : Option Files) (name : List ℕ) (o n : Level) : Type 0 where
  pub told : Files
  pub files_are : files ≡ Some told
  pub older : List ℕ
  pub asked_is : asked ≡ Tower (Compare older name)
  pub under : AreLibrariesUnder told older name o n

-- ---- compiling

-- a level is to be compiled and put under this name, and the store holds images of levels that conform and stand on one another, and texts that stand for it against their flat interface, which breaks no rule
pub record AreLevelTextsOf (asked : Asked) (files : Option Files) (out : List ℕ) (l : Level) : Type 0 where
  pub told : Files
  pub files_are : files ≡ Some told
  pub first : List ℕ
  pub others : List (List ℕ)
  pub names : List (List ℕ)
  pub asked_is : asked ≡ Tower (Make out (first ∷ others) names)
  pub texts : HoldsLevelTexts told first others names l

-- the store told its files, and the tower image of the level, which is there and is bytes, stands under the name, no other file is changed, nothing was written, and the status is 0
pub record PutsLevel (files : Option Files) (out : List ℕ) (l : Level) (status : ℕ) (new_files : Option Files) (old new : Option (List ℕ)) : Type 0 where
  pub told : Files
  pub files_are : files ≡ Some told
  pub puts : making.PutsLevel told out l status new_files old new
