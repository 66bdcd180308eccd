-- What a command answers whose answer is made before any of it is printed.
use Rattle.std.specs.Prelude.{Option, Some, None, Result, Ok, Err}
use Rattle.std.specs.List.{concat}
use Rattle.som_model.specs.Bytes.{Files}
use Rattle.som_cmd_steps.specs.declared.output.Output.{Output}
use Rattle.som_cmd_steps.specs.declared.stop.CommandStop.{CommandStop}
use Rattle.som_cmd_steps.specs.Status.{end_status}
use Rattle.som_cmd_steps.specs.Endings.{Ending, refusing}
use Rattle.som_cmd_steps.specs.declared.stop.CommandStop.TheVariants as stops

-- which ending a command has over the files of a store, where neither store nor sink fails and memory lasts
abbrev pub Answering : Type 1
Answering = Files → Ending → Type 0

-- how a command ends that no step refuses
abbrev pub printed : Files → Output → Ending
printed files o = record { text = concat o.lines; status = end_status o.end; files = files }

-- a command that goes no further answers that it is refused, unless the store failed or memory ran out
abbrev pub StopAnswers : (Ending → Type 0) → Files → CommandStop → Type 0
StopAnswers IsAnswer files (stops.Refused r) = IsAnswer (refusing files r)
StopAnswers IsAnswer files (stops.StoreFailed line) = Unit {0}
StopAnswers IsAnswer files stops.NoMemory = Unit {0}

-- what a command came to is its answer, unless the store failed or memory ran out
abbrev pub Answers : (Ending → Type 0) → Files → Result Output CommandStop → Type 0
Answers IsAnswer files (Ok o) = IsAnswer (printed files o)
Answers IsAnswer files (Err stop) = StopAnswers IsAnswer files stop

-- what a command came to over a store is its answer, where the store tells its files
abbrev pub AnswersTold : Answering → Option Files → Result Output CommandStop → Type 0
AnswersTold IsAnswer None result = Unit {0}
AnswersTold IsAnswer (Some files) result = Answers (IsAnswer files) files result
