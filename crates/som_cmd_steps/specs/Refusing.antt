-- What a command may refuse and which statuses it may end with, whatever the store tells.
use Rattle.std.specs.Prelude.{ℕ, List, Option, Result, Ok, Err, ◌≡◌}
use Rattle.som_model.specs.Lists.{Mem}
use Rattle.som_io.specs.Outside.{ShowsAll}
use Rattle.som_cmd_steps.specs.declared.output.Output.{Output}
use Rattle.som_cmd_steps.specs.declared.stop.Refusal.{Refusal}
use Rattle.som_cmd_steps.specs.declared.stop.CommandStop.{CommandStop}
use Rattle.som_cmd_steps.specs.Status.{end_status, status_of}
use Rattle.som_cmd_steps.specs.declared.stop.CommandStop.TheVariants as stops

abbrev pub StopRefusesAs : (Refusal → Type 0) → CommandStop → Type 0
StopRefusesAs IsOne (stops.Refused r) = IsOne r
StopRefusesAs IsOne (stops.StoreFailed line) = Unit {0}
StopRefusesAs IsOne stops.NoMemory = Unit {0}

-- where a step refuses, the refusal is one of these
abbrev pub RefusesAs : {A : Type 0} → (Refusal → Type 0) → Result A CommandStop → Type 0
RefusesAs IsOne (Ok x) = Unit {0}
RefusesAs IsOne (Err stop) = StopRefusesAs IsOne stop

-- the status of the refusal is one of these
abbrev pub HasStatusIn : List ℕ → Refusal → Type 0
HasStatusIn statuses r = Mem (status_of r.why) statuses

-- the status of what a command came to is one of these, unless the store failed or memory ran out
abbrev pub EndsIn : List ℕ → Result Output CommandStop → Type 0
EndsIn statuses (Ok o) = Mem (end_status o.end) statuses
EndsIn statuses (Err stop) = StopRefusesAs (HasStatusIn statuses) stop

-- the line of one of these refusals is all that was written, and the status is that refusal's
pub record TellsRefusal (IsOne : Refusal → Type 0) (status : ℕ) (old new : Option (List ℕ)) : Type 0 where
  pub refusal : Refusal
  pub is_one : IsOne refusal
  pub status_is : status ≡ status_of refusal.why
  pub written : ShowsAll old new refusal.line
