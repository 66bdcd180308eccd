-- What a client is compiled from: the release of a library, and texts.
use Rattle.std.specs.Prelude.{ℕ, List, Result, Ok}
use Rattle.som_model.specs.Bytes.{Files}
use Rattle.som_model.specs.Steps.{◌>>=◌}
use Rattle.som_cmd_steps.specs.declared.stop.Refusal.{Refusal}
use Rattle.som_cmd_steps.specs.Fetching.{file_of}
use Rattle.som_cmd_steps.specs.ImageSteps.{sound_release}
use Rattle.som_cmd_sources.specs.declared.client_parts.ClientParts.{ClientParts}
use Rattle.som_cmd_sources.specs.Texts.{texts_in}

-- the release under one name and the texts under others: all are got before the image is read and its rules are looked at
abbrev pub parts_in : List ℕ → List (List ℕ) → Files → Result ClientParts Refusal
parts_in library names files = do
  bytes ← file_of library files
  texts ← texts_in names files
  base ← sound_release library bytes
  Ok (record { base = base; texts = texts })
