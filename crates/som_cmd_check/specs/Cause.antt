-- Which lines of `show` may say that the store failed.
use Rattle.std.specs.Prelude.{◌≡◌, ℕ, List, Option}
use Rattle.som_model.specs.Bytes.{Files}
use Rattle.som_cmd_steps.specs.Lines.{store_failed}

-- the get of the image failed
abbrev pub FailsShowing : Option Files → List ℕ → List ℕ → Type 0
FailsShowing files name line = line ≡ store_failed name
