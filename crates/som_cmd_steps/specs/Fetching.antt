-- What a store has under a name.
use Rattle.std.specs.Prelude.{ℕ, List, Result, ◌≡◌, Option, Some, None}
use Rattle.std.specs.FinMap.{get}
use Rattle.std.specs.Option.{ok_or}
use Rattle.som_model.specs.Bytes.{Files}
use Rattle.som_cmd_steps.specs.declared.stop.Refusal.{Refusal}
use Rattle.som_cmd_steps.specs.Lines.{absent}

-- the bytes under a name
abbrev pub file_of : List ℕ → Files → Result (List ℕ) Refusal
file_of name files = ok_or (get files name) (absent name)

-- the files, where they are told, have something under a name
abbrev pub Has : Option Files → List ℕ → Type 0
Has None name = Unit {0}
Has (Some files) name = (bytes : List ℕ) × (get files name ≡ Some bytes)
