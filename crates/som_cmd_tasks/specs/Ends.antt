-- How the ends of clients are told, and what a call comes to that gives turns.
use Rattle.std.specs.Prelude.{◌≡◌, ◌≢◌, ◌+◌, ℕ, List, [], ◌∷◌, ◌++◌, Option, Result, Ok, Err, codes}
use Rattle.std.specs.List.{concat}
use Rattle.std.specs.Fmt.{decimal}
use Rattle.som_io.specs.Outside.{Rose, ShowsAll, ShowsFront}
use Rattle.som_turn_laws.specs.Turns.{Clients, closing_lines, turns_text}
use Rattle.som_interp_task.specs.declared.advanced.Advanced.{Advanced}
use Rattle.som_interp_task.specs.declared.advanced.Advanced.TheVariants as answers
use Rattle.som_cmd_steps.specs.declared.output.Output.{Output}
use Rattle.som_cmd_steps.specs.declared.output.End.TheVariants as the_end
use Rattle.som_cmd_steps.specs.declared.stop.CommandStop.{CommandStop}
use Rattle.som_cmd_steps.specs.declared.stop.CommandStop.TheVariants as stops

-- ---- lines

-- an end in a word
abbrev pub word_told : Advanced → List ℕ
word_told answers.Going = codes "going"
word_told answers.Done = codes "done"
word_told (answers.SourceFault fault at) = codes "fault"
word_told answers.SinkFailed = []
word_told answers.NoMemory = []

-- the line that tells the end of client i
abbrev pub end_told : ℕ → Advanced → List ℕ
end_told i end = codes "client " ++ decimal i ++ codes " " ++ word_told end ++ 10 ∷ []

-- the lines that tell these ends, of the clients from number i on
abbrev pub lines_from : ℕ → List Advanced → List (List ℕ)
lines_from i [] = []
lines_from i (end ∷ ends) = end_told i end ∷ lines_from (i + 1) ends

-- these lines are to be printed, with status 0, or memory ran out
abbrev pub IsOutputOf : List (List ℕ) → Result Output CommandStop → Type 0
IsOutputOf lines (Ok o) = o ≡ record { lines = lines; end = the_end.Done }
IsOutputOf lines (Err stop) = stop ≡ stops.NoMemory

-- ---- a call

-- the text of the turns of so many clients, and then the lines that tell their ends
abbrev pub tasks_text : Clients → List ℕ → ℕ → List ℕ
tasks_text clients turns count = turns_text clients turns ++ concat (closing_lines clients turns count)

-- all of that text was written, and the status is 0; or the sink failed, whose count rose then, with status 8, or memory ran out, with status 10, and a front of it was written
pub record EndsTurns (clients : Clients) (turns : List ℕ) (count before now : ℕ) (old new : Option (List ℕ)) (status : ℕ) : Type 0 where
  pub ended : status ≢ 8 → status ≢ 10 → status ≡ 0
  pub text : status ≢ 8 → status ≢ 10 → ShowsAll old new (tasks_text clients turns count)
  pub front : ShowsFront old new (tasks_text clients turns count)
  pub cause : status ≡ 8 → Rose before now
