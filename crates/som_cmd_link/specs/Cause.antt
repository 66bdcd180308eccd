-- Which lines of `run` may say that the store failed.
use Rattle.std.specs.Prelude.{ℕ, List, Option, ◌≡◌, ◌⊎◌}
use Rattle.som_model.specs.Bytes.{Files}
use Rattle.som_cmd_steps.specs.Fetching.{Has}
use Rattle.som_cmd_steps.specs.Lines.{store_failed}

-- the get of the client failed, or that of the library, and the client is there
abbrev pub FailsRunning : Option Files → List ℕ → List ℕ → List ℕ → Type 0
FailsRunning files client library line = (line ≡ store_failed client) ⊎ ((line ≡ store_failed library) × Has files client)
