-- Where the store failed.
use Rattle.std.proofs.Common.{◌≡◌, ◌≤◌, ℕ, List, Option, Result, Ok, Err, inl, inr}
use Rattle.som_model.specs.Bytes.{Files}
use Rattle.som_io.proofs.ShownLaws.{rose_earlier}
use Rattle.som_class_kernel.specs.Linked.{Linkage}
use Rattle.som_cmd_steps.specs.declared.stop.CommandStop.{CommandStop}
use Rattle.som_cmd_steps.specs.Fetching.{file_of}
use Rattle.som_cmd_steps.specs.Cause.{HasCause, IsQuiet, IsQuietStop}
use Rattle.som_cmd_steps.specs.Lines.{store_failed}
use Rattle.som_cmd_steps.specs.Steps.{FollowsTold}
use Rattle.som_cmd_steps.proofs.FileLaws.{has_bytes}
use Rattle.som_cmd_steps.specs.declared.stop.CommandStop.TheVariants as stops
use Rattle.som_cmd_link.specs.declared.pair.Pair.{Pair}
use Rattle.som_cmd_link.specs.Cause.{FailsRunning}

pub client_fails : (files : Option Files) (c l : List ℕ) (count now : ℕ) (stop : CommandStop) → HasCause {A = List ℕ} (λ line. line ≡ store_failed c) count now (Err stop) → HasCause {A = Pair} (FailsRunning files c l) count now (Err stop)
client_fails files c l count now (stops.StoreFailed line) cause = (cause.0, inl cause.1)
client_fails files c l count now (stops.Refused r) cause = tt
client_fails files c l count now stops.NoMemory cause = tt

pub library_fails : (files : Option Files) (c l cb : List ℕ) (count mid now : ℕ) (stop : CommandStop) → count ≤ mid → FollowsTold files (Ok cb) (file_of c) → HasCause {A = List ℕ} (λ line. line ≡ store_failed l) mid now (Err stop)
    → HasCause {A = Pair} (FailsRunning files c l) count now (Err stop)
library_fails files c l cb count mid now (stops.StoreFailed line) le f cause = (rose_earlier count mid now le cause.0, inr (cause.1, has_bytes files c cb f))
library_fails files c l cb count mid now (stops.Refused r) le f cause = tt
library_fails files c l cb count mid now stops.NoMemory le f cause = tt

-- reading takes nothing from the store
pub reading_fails : (files : Option Files) (c l : List ℕ) (count now : ℕ) (stop : CommandStop) → IsQuietStop stop → HasCause {A = Pair} (FailsRunning files c l) count now (Err stop)
reading_fails files c l count now (stops.StoreFailed line) quiet = absurd quiet
reading_fails files c l count now (stops.Refused r) quiet = tt
reading_fails files c l count now stops.NoMemory quiet = tt

-- nor does linking
pub linking_fails : (files : Option Files) (c l : List ℕ) (count now : ℕ) (result : Result Linkage CommandStop) → IsQuiet result → HasCause (FailsRunning files c l) count now result
linking_fails files c l count now (Ok k) quiet = tt
linking_fails files c l count now (Err (stops.StoreFailed line)) quiet = absurd quiet
linking_fails files c l count now (Err (stops.Refused r)) quiet = tt
linking_fails files c l count now (Err stops.NoMemory) quiet = tt
