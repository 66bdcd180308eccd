-- Where the store failed.
use Rattle.std.proofs.Common.{◌≡◌, ◌≤◌, ℕ, List, ◌∷◌, Option, Result, Ok, Err, inl, inr, subst}
use Rattle.som_model.specs.Bytes.{Files}
use Rattle.som_io.proofs.ShownLaws.{rose_earlier}
use Rattle.som_class_kernel.specs.Linked.{Linkage}
use Rattle.som_cmd_steps.specs.declared.stop.CommandStop.{CommandStop}
use Rattle.som_cmd_steps.specs.declared.stop.CommandStop.TheVariants as stops
use Rattle.som_cmd_steps.specs.Cause.{HasCause, IsQuiet}
use Rattle.som_cmd_steps.specs.Fetching.{file_of}
use Rattle.som_cmd_steps.specs.Getting.{FailsGetting}
use Rattle.som_cmd_steps.specs.Lines.{store_failed}
use Rattle.som_cmd_steps.specs.Steps.{FollowsTold}
use Rattle.som_cmd_steps.proofs.FileLaws.{has_bytes}

pub client_fails : (files : Option Files) (c : List ℕ) (below : List (List ℕ)) (count now : ℕ) (stop : CommandStop) → HasCause {A = List ℕ} (λ line. line ≡ store_failed c) count now (Err stop)
    → HasCause {A = Linkage} (FailsGetting files (c ∷ below)) count now (Err stop)
client_fails files c below count now (stops.StoreFailed line) cause = (cause.0, inl cause.1)
client_fails files c below count now (stops.Refused r) cause = tt
client_fails files c below count now stops.NoMemory cause = tt

pub levels_fail : (files later : Option Files) (c : List ℕ) (below : List (List ℕ)) (cb : List ℕ) (count mid now : ℕ) (stop : CommandStop) → later ≡ files → count ≤ mid → FollowsTold files (Ok cb) (file_of c)
    → HasCause {A = List (List ℕ)} (FailsGetting later below) mid now (Err stop) → HasCause {A = Linkage} (FailsGetting files (c ∷ below)) count now (Err stop)
levels_fail files later c below cb count mid now (stops.StoreFailed line) same le f cause =
    (rose_earlier count mid now le cause.0, inr (has_bytes files c cb f, subst (λ (x : Option Files). FailsGetting x below line) same cause.1))
levels_fail files later c below cb count mid now (stops.Refused r) same le f cause = tt
levels_fail files later c below cb count mid now stops.NoMemory same le f cause = tt

-- laying out takes nothing from the store
pub laying_fails : (files : Option Files) (c : List ℕ) (below : List (List ℕ)) (count now : ℕ) (result : Result Linkage CommandStop) → IsQuiet result → HasCause (FailsGetting files (c ∷ below)) count now result
laying_fails files c below count now (Ok k) quiet = tt
laying_fails files c below count now (Err (stops.StoreFailed line)) quiet = absurd quiet
laying_fails files c below count now (Err (stops.Refused r)) quiet = tt
laying_fails files c below count now (Err stops.NoMemory) quiet = tt
