-- What a run prints and answers: the first step that refuses, or what the client means.
use Rattle.std.specs.Prelude.{◌≡◌, ℕ, Bool, List, ◌∷◌, Result, Ok, Err}
use Rattle.som_model.specs.Bytes.{Files}
use Rattle.som_semantics.specs.Runs.{Ran}
use Rattle.som_semantics.specs.Means.{means}
use Rattle.som_semantics.specs.RunText.{run_text, run_status}
use Rattle.som_cmd_steps.specs.declared.stop.Refusal.{Refusal}
use Rattle.som_cmd_steps.specs.Endings.{refusing, Ending}
use Rattle.som_cmd_steps.specs.Status.{failing_statuses}
use Rattle.som_cmd_link.specs.declared.pair.Pair.{Pair}
use Rattle.som_cmd_link.specs.Pairs.{linked_in}

-- what a run prints, with these calls shown, and its status
abbrev pub ran : {A : Type 0} → (List ℕ → Bool) → Files → Ran A → Ending
ran shows files run = record { text = run_text shows run; status = run_status run; files = files }

-- a pair runs, with so much fuel, and what is refused is told
abbrev pub ending_by : ℕ → (List ℕ → Bool) → Files → Result Pair Refusal → Ending
ending_by fuel shows files (Ok pair) = ran shows files (means pair.release pair.program fuel)
ending_by fuel shows files (Err r) = refusing files r

-- how a run ends: both images are got, read and linked, and the client runs
abbrev pub run_ending : List ℕ → List ℕ → ℕ → (List ℕ → Bool) → Files → Ending
run_ending client library fuel shows files = ending_by fuel shows files (linked_in client library files)

abbrev pub IsRunAnswer : List ℕ → List ℕ → ℕ → (List ℕ → Bool) → Files → Ending → Type 0
IsRunAnswer client library fuel shows files e = e ≡ run_ending client library fuel shows files

-- the statuses of a run: it came to its end, or to a fault, those of its refusals, its fuel was spent, or something failed
abbrev pub run_statuses : List ℕ
run_statuses = 0 ∷ 1 ∷ 4 ∷ 5 ∷ 7 ∷ 9 ∷ failing_statuses
