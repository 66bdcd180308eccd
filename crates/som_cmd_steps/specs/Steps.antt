-- What the steps of a command answer.
use Rattle.std.specs.Prelude.{◌≡◌, Option, Some, None, Result, Ok, Err}
use Rattle.som_model.specs.Bytes.{Files}
use Rattle.som_cmd_steps.specs.declared.stop.Refusal.{Refusal}
use Rattle.som_cmd_steps.specs.declared.stop.CommandStop.{CommandStop}
use Rattle.som_cmd_steps.specs.declared.stop.CommandStop.TheVariants as stops

abbrev pub Stops : {A : Type 0} → CommandStop → Result A Refusal → Type 0
Stops (stops.Refused r) steps = steps ≡ Err r
Stops (stops.StoreFailed line) steps = Unit {0}
Stops stops.NoMemory steps = Unit {0}

-- what a step of the code answers is what the step says, unless the store failed or memory ran out
abbrev pub Follows : {A : Type 0} → Result A CommandStop → Result A Refusal → Type 0
Follows (Ok x) steps = steps ≡ Ok x
Follows (Err stop) steps = Stops stop steps

-- what a step of the code answers over a store is what the step says, where the store tells its files
abbrev pub FollowsTold : {A : Type 0} → Option Files → Result A CommandStop → (Files → Result A Refusal) → Type 0
FollowsTold None result steps = Unit {0}
FollowsTold (Some files) result steps = Follows result (steps files)
