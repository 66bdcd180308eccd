-- Which lines may say that the store failed where a command gets texts.
use Rattle.std.specs.Prelude.{◌≡◌, ◌⊎◌, ℕ, List, ◌∷◌, ◌++◌, Option, Some, None, Ok}
use Rattle.som_model.specs.Bytes.{Files}
use Rattle.som_sources.specs.declared.source.Source.{Source}
use Rattle.som_cmd_steps.specs.Fetching.{Has}
use Rattle.som_cmd_steps.specs.Lines.{store_failed}
use Rattle.som_cmd_sources.specs.Texts.{texts_in}

-- the files, where they are told, have texts under these names, which aren't too long
abbrev pub AreGot : Option Files → List (List ℕ) → Type 0
AreGot None names = Unit {0}
AreGot (Some files) names = (ss : List Source) × (texts_in names files ≡ Ok ss)

-- the line says that the get of one of these names failed, and those before it are got
pub record FailsGettingTexts (files : Option Files) (names : List (List ℕ)) (line : List ℕ) : Type 0 where
  pub before : List (List ℕ)
  pub name : List ℕ
  pub after : List (List ℕ)
  pub names_are : names ≡ before ++ name ∷ after
  pub got : AreGot files before
  pub line_is : line ≡ store_failed name

-- the line says that the get of a library or of one of these names failed, and those before it are got
abbrev pub FailsGettingParts : Option Files → List ℕ → List (List ℕ) → List ℕ → Type 0
FailsGettingParts files library names line = (line ≡ store_failed library) ⊎ (Has files library × FailsGettingTexts files names line)
