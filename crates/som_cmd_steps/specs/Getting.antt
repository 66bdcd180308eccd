-- What a store has under several names, and which lines may say that one of the gets failed.
use Rattle.std.specs.Prelude.{◌≡◌, ◌⊎◌, ℕ, List, [], ◌∷◌, Option, Result, Ok}
use Rattle.som_model.specs.Bytes.{Files}
use Rattle.som_model.specs.Lists.{Mem}
use Rattle.som_model.specs.Steps.{◌>>=◌}
use Rattle.som_cmd_steps.specs.declared.stop.Refusal.{Refusal}
use Rattle.som_cmd_steps.specs.Fetching.{file_of, Has}
use Rattle.som_cmd_steps.specs.Lines.{absent, store_failed}

-- the bytes under each name; the first that isn't there, refuses for all
abbrev pub images_in : List (List ℕ) → Files → Result (List (List ℕ)) Refusal
images_in [] files = Ok []
images_in (n ∷ ns) files = do
  b ← file_of n files
  bs ← images_in ns files
  Ok (b ∷ bs)

-- one of the names isn't there
abbrev pub IsAbsentOf : List (List ℕ) → Refusal → Type 0
IsAbsentOf names r = (name : List ℕ) × Mem name names × (r ≡ absent name)

-- the line says that the get of one of these names failed, which are got in order, and those before it are there
abbrev pub FailsGetting : Option Files → List (List ℕ) → List ℕ → Type 0
FailsGetting files [] line = ⊥
FailsGetting files (n ∷ ns) line = (line ≡ store_failed n) ⊎ (Has files n × FailsGetting files ns line)
