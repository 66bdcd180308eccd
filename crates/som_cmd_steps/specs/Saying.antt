-- What was printed of what a command came to.
use Rattle.std.specs.Prelude.{ℕ, List, Option, Result, Ok, Err, ◌≡◌}
use Rattle.std.specs.List.{concat}
use Rattle.som_io.specs.Outside.{ShowsAll, ShowsFront}
use Rattle.som_cmd_steps.specs.declared.output.Output.{Output}
use Rattle.som_cmd_steps.specs.declared.stop.CommandStop.{CommandStop}
use Rattle.som_cmd_steps.specs.Status.{end_status, status_of}
use Rattle.som_cmd_steps.specs.declared.stop.CommandStop.TheVariants as stops

-- the line of a refusal, with its status
abbrev pub StopSaysAll : CommandStop → ℕ → Option (List ℕ) → Option (List ℕ) → Type 0
StopSaysAll (stops.Refused r) status old new = (status ≡ status_of r.why) × ShowsAll old new r.line
StopSaysAll (stops.StoreFailed line) status old new = ⊥
StopSaysAll stops.NoMemory status old new = ⊥

-- the line that says that the store failed
abbrev pub StopSaysFailure : CommandStop → Option (List ℕ) → Option (List ℕ) → Type 0
StopSaysFailure (stops.StoreFailed line) old new = ShowsAll old new line
StopSaysFailure _ old new = ⊥

-- a front of the line that is to be printed
abbrev pub StopSaysFront : CommandStop → Option (List ℕ) → Option (List ℕ) → Type 0
StopSaysFront (stops.Refused r) old new = ShowsFront old new r.line
StopSaysFront (stops.StoreFailed line) old new = ShowsFront old new line
StopSaysFront stops.NoMemory old new = new ≡ old

-- all that the command prints, with its status
abbrev pub SaysAll : Result Output CommandStop → ℕ → Option (List ℕ) → Option (List ℕ) → Type 0
SaysAll (Ok o) status old new = (status ≡ end_status o.end) × ShowsAll old new (concat o.lines)
SaysAll (Err stop) status old new = StopSaysAll stop status old new

-- the line that says that the store failed
abbrev pub SaysFailure : Result Output CommandStop → Option (List ℕ) → Option (List ℕ) → Type 0
SaysFailure (Ok o) old new = ⊥
SaysFailure (Err stop) old new = StopSaysFailure stop old new

-- a front of what is to be printed
abbrev pub SaysFront : Result Output CommandStop → Option (List ℕ) → Option (List ℕ) → Type 0
SaysFront (Ok o) old new = ShowsFront old new (concat o.lines)
SaysFront (Err stop) old new = StopSaysFront stop old new
