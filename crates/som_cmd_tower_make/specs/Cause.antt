-- Which lines of `tower make` may say that the store failed.
use Rattle.std.specs.Prelude.{◌≡◌, ◌⊎◌, ℕ, List, Option, Some, None, Ok}
use Rattle.som_model.specs.Bytes.{Files}
use Rattle.som_cmd_steps.specs.Getting.{FailsGetting, images_in}
use Rattle.som_cmd_steps.specs.Lines.{store_failed}
use Rattle.som_cmd_sources.specs.Getting.{FailsGettingTexts}
use Rattle.som_cmd_build.specs.Cause.{HaveImage}
use Rattle.som_cmd_tower_make.specs.TowerMakeAnswer.{IsTowerMade}

-- the files, where they are told, have something under each of these names
abbrev pub HaveAll : Option Files → List (List ℕ) → Type 0
HaveAll None names = Unit {0}
HaveAll (Some files) names = (images : List (List ℕ)) × (images_in names files ≡ Ok images)

-- the line says that the get of an image failed, or of a text, and those before it are there
abbrev pub FailsGettingTower : Option Files → List (List ℕ) → List (List ℕ) → List ℕ → Type 0
FailsGettingTower files below names line = FailsGetting files below line ⊎ (HaveAll files below × FailsGettingTexts files names line)

-- a get failed, or the put of what the texts are compiled to
abbrev pub FailsTowerMake : Option Files → List ℕ → List (List ℕ) → List (List ℕ) → List ℕ → Type 0
FailsTowerMake files out below names line = FailsGettingTower files below names line ⊎ ((line ≡ store_failed out) × HaveImage files (λ told. IsTowerMade told below names))
