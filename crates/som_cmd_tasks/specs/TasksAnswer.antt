-- What `tasks` prints and answers: the first step that refuses, or the turns of the clients and their ends.
use Rattle.std.specs.Prelude.{◌≡◌, ℕ, List, ◌∷◌, length, Option, Some, None, slice_get, Result, Ok, Err}
use Rattle.som_model.specs.declared.program.ClientProgram.{ClientProgram}
use Rattle.som_model.specs.declared.program.Release.{Release}
use Rattle.som_model.specs.Bytes.{Files}
use Rattle.som_semantics.specs.Means.{means}
use Rattle.som_turn_laws.specs.Clients.{Client}
use Rattle.som_turn_laws.specs.Turns.{Clients}
use Rattle.som_tasks.specs.Taken.{no_client}
use Rattle.som_cmd_steps.specs.declared.stop.Refusal.{Refusal}
use Rattle.som_cmd_steps.specs.Endings.{Ending, refusing}
use Rattle.som_cmd_steps.specs.Status.{failing_statuses}
use Rattle.som_cmd_tasks.specs.declared.group.Group.{Group}
use Rattle.som_cmd_tasks.specs.Ends.{tasks_text}
use Rattle.som_cmd_tasks.specs.Groups.{group_in}

-- what a client program means on a release by units, and nothing where there is none
abbrev pub program_client : Release → Option ClientProgram → Client
program_client r None = no_client
program_client r (Some p) = means r p

-- the client of each number is what the program at that place means on the release
abbrev pub clients_on : Release → List ClientProgram → Clients
clients_on r ps i = program_client r (slice_get ps i)

-- the programs of a group take these turns, and what is refused is told
abbrev pub ending_by : List ℕ → Files → Result Group Refusal → Ending
ending_by turns files (Ok group) = record { text = tasks_text (clients_on group.release group.programs) turns (length group.programs); status = 0; files = files }
ending_by turns files (Err r) = refusing files r

-- how a call ends: all images are got, read, looked at and linked, and the clients take turns
abbrev pub tasks_ending : List ℕ → List ℕ → List (List ℕ) → Files → Ending
tasks_ending library turns clients files = ending_by turns files (group_in library clients files)

abbrev pub IsTasksAnswer : List ℕ → List ℕ → List (List ℕ) → Files → Ending → Type 0
IsTasksAnswer library turns clients files e = e ≡ tasks_ending library turns clients files

-- the statuses of `tasks`: all turns were taken, those of its refusals, or something failed
abbrev pub tasks_statuses : List ℕ
tasks_statuses = 0 ∷ 4 ∷ 5 ∷ 7 ∷ failing_statuses
