-- Where the store failed.
use Rattle.std.proofs.Common.{◌≡◌, ◌≤◌, ℕ, List, ◌∷◌, Option, Result, Ok, Err, inl, inr, subst}
use Rattle.som_model.specs.Bytes.{Files}
use Rattle.som_io.proofs.ShownLaws.{rose_earlier}
use Rattle.som_class_kernel.specs.Linked.{Linkage}
use Rattle.som_cmd_steps.specs.declared.stop.CommandStop.{CommandStop}
use Rattle.som_cmd_steps.specs.declared.stop.CommandStop.TheVariants as stops
use Rattle.som_cmd_steps.specs.Cause.{HasCause, IsQuiet}
use Rattle.som_cmd_steps.specs.Fetching.{file_of}
use Rattle.som_cmd_steps.specs.Getting.{FailsGetting}
use Rattle.som_cmd_steps.specs.Lines.{store_failed}
use Rattle.som_cmd_steps.specs.Steps.{FollowsTold}
use Rattle.som_cmd_steps.proofs.FileLaws.{has_bytes}

pub library_fails : (files : Option Files) (l : List ℕ) (cs : List (List ℕ)) (count now : ℕ) (stop : CommandStop) → HasCause {A = List ℕ} (λ line. line ≡ store_failed l) count now (Err stop)
    → HasCause {A = List Linkage} (FailsGetting files (l ∷ cs)) count now (Err stop)
library_fails files l cs count now (stops.StoreFailed line) cause = (cause.0, inl cause.1)
library_fails files l cs count now (stops.Refused r) cause = tt
library_fails files l cs count now stops.NoMemory cause = tt

pub clients_fail : (files later : Option Files) (l : List ℕ) (cs : List (List ℕ)) (lb : List ℕ) (count mid now : ℕ) (stop : CommandStop) → later ≡ files → count ≤ mid → FollowsTold files (Ok lb) (file_of l)
    → HasCause {A = List (List ℕ)} (FailsGetting later cs) mid now (Err stop) → HasCause {A = List Linkage} (FailsGetting files (l ∷ cs)) count now (Err stop)
clients_fail files later l cs lb count mid now (stops.StoreFailed line) same le f cause =
    (rose_earlier count mid now le cause.0, inr (has_bytes files l lb f, subst (λ (x : Option Files). FailsGetting x cs line) same cause.1))
clients_fail files later l cs lb count mid now (stops.Refused r) same le f cause = tt
clients_fail files later l cs lb count mid now stops.NoMemory same le f cause = tt

-- linking takes nothing from the store
pub linking_fails : (files : Option Files) (l : List ℕ) (cs : List (List ℕ)) (count now : ℕ) (result : Result (List Linkage) CommandStop) → IsQuiet result → HasCause (FailsGetting files (l ∷ cs)) count now result
linking_fails files l cs count now (Ok ks) quiet = tt
linking_fails files l cs count now (Err (stops.StoreFailed line)) quiet = absurd quiet
linking_fails files l cs count now (Err (stops.Refused r)) quiet = tt
linking_fails files l cs count now (Err stops.NoMemory) quiet = tt
