-- Where the store failed before anything is told.
use Rattle.std.proofs.Common.{◌≡◌, ◌≤◌, ℕ, List, [], ◌∷◌, Option, Result, Ok, Err, inl, inr}
use Rattle.som_model.specs.Bytes.{Files}
use Rattle.som_io.proofs.ShownLaws.{rose_earlier}
use Rattle.som_cmd_steps.specs.declared.stop.CommandStop.{CommandStop}
use Rattle.som_cmd_steps.specs.Cause.{HasCause, IsQuiet}
use Rattle.som_cmd_steps.specs.Fetching.{file_of}
use Rattle.som_cmd_steps.specs.Getting.{FailsGetting}
use Rattle.som_cmd_steps.specs.Lines.{store_failed}
use Rattle.som_cmd_steps.specs.Steps.{FollowsTold}
use Rattle.som_cmd_steps.proofs.FileLaws.{has_bytes}
use Rattle.som_cmd_steps.specs.declared.stop.CommandStop.TheVariants as stops
use Rattle.som_cmd_witness.specs.declared.releases.Releases.{Releases}

-- the get of the older image failed
pub older_fails : (files : Option Files) (old new : List ℕ) (count now : ℕ) (stop : CommandStop) → HasCause {A = List ℕ} (λ line. line ≡ store_failed old) count now (Err stop)
    → HasCause {A = Releases} (FailsGetting files (old ∷ new ∷ [])) count now (Err stop)
older_fails files old new count now (stops.StoreFailed line) cause = (cause.0, inl cause.1)
older_fails files old new count now (stops.Refused r) cause = tt
older_fails files old new count now stops.NoMemory cause = tt

-- that of the newer one did
pub newer_fails : (files : Option Files) (old new ob : List ℕ) (count mid now : ℕ) (stop : CommandStop) → count ≤ mid → FollowsTold files (Ok ob) (file_of old)
    → HasCause {A = List ℕ} (λ line. line ≡ store_failed new) mid now (Err stop) → HasCause {A = Releases} (FailsGetting files (old ∷ new ∷ [])) count now (Err stop)
newer_fails files old new ob count mid now (stops.StoreFailed line) le f cause = (rose_earlier count mid now le cause.0, inr (has_bytes files old ob f, inl cause.1))
newer_fails files old new ob count mid now (stops.Refused r) le f cause = tt
newer_fails files old new ob count mid now stops.NoMemory le f cause = tt

-- reading takes nothing from the store
pub reading_fails : (files : Option Files) (old new : List ℕ) (count now : ℕ) (result : Result Releases CommandStop) → IsQuiet result → HasCause (FailsGetting files (old ∷ new ∷ [])) count now result
reading_fails files old new count now (Ok rs) quiet = tt
reading_fails files old new count now (Err (stops.StoreFailed line)) quiet = absurd quiet
reading_fails files old new count now (Err (stops.Refused r)) quiet = tt
reading_fails files old new count now (Err stops.NoMemory) quiet = tt
