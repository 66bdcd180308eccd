-- With which statuses a call may end, and what it tells where it is refused, whatever store and sink tell.
use Rattle.std.specs.Prelude.{ℕ, List, [], ◌∷◌, Option, ◌≡◌, ◌⊎◌}
use Rattle.som_io.specs.Outside.{ShowsAll, ShowsFront}
use Rattle.som_cmd_steps.specs.Refusing.{TellsRefusal}
use Rattle.som_cmd_sources.specs.Statuses.{library_statuses, client_statuses}
use Rattle.som_cmd_check.specs.CheckAnswer.{check_statuses}
use Rattle.som_cmd_check.specs.ShowAnswer.{show_statuses}
use Rattle.som_cmd_link.specs.Refusals.{IsRunRefusal}
use Rattle.som_cmd_run.specs.RunAnswer.{run_statuses}
use Rattle.som_cmd_tasks.specs.Refusals.{IsTasksRefusal}
use Rattle.som_cmd_tasks.specs.TasksAnswer.{tasks_statuses}
use Rattle.som_cmd_witness.specs.WitnessAnswer.{witness_statuses}
use Rattle.som_cmd_generate.specs.GenerateAnswer.{generate_statuses}
use Rattle.som_cmd_towers.specs.Answer.{tower_statuses}
use Rattle.som_cmd_towers.specs.Ends.{TellsTowerLine}
use Rattle.som_cmd.specs.Answer.{bad_line}
use Rattle.som_cmd.specs.Words.{Asked, Run, Show, Check, Library, Client, Tasks, Witness, Generate, Tower, Bad}

-- the statuses of what is asked for; words of no form are refused, or the sink fails or memory runs out meanwhile
abbrev pub statuses_of : Asked → List ℕ
statuses_of (Run client library fuel shows) = run_statuses
statuses_of (Show image) = show_statuses
statuses_of (Check images) = check_statuses
statuses_of (Library out names) = library_statuses
statuses_of (Client out library names) = client_statuses
statuses_of (Tasks library turns clients) = tasks_statuses
statuses_of (Witness out old new) = witness_statuses
statuses_of (Generate count) = generate_statuses
statuses_of (Tower what) = tower_statuses what
statuses_of Bad = 2 ∷ 8 ∷ 10 ∷ []

-- a run that is refused tells it by one line alone, and so do turns: an image isn't there, can't be read or breaks a rule, or the library doesn't keep what the client, or one of them, was compiled against
abbrev pub TellsOneLine : Asked → ℕ → Option (List ℕ) → Option (List ℕ) → Type 0
TellsOneLine (Run client library fuel shows) status old new = (status ≡ 4) ⊎ (status ≡ 5) ⊎ (status ≡ 7) → TellsRefusal (IsRunRefusal client library) status old new
TellsOneLine (Show image) status old new = Unit {0}
TellsOneLine (Check images) status old new = Unit {0}
TellsOneLine (Library out names) status old new = Unit {0}
TellsOneLine (Client out library names) status old new = Unit {0}
TellsOneLine (Tasks library turns clients) status old new = (status ≡ 4) ⊎ (status ≡ 5) ⊎ (status ≡ 7) → TellsRefusal (IsTasksRefusal library clients) status old new
TellsOneLine (Witness out older newer) status old new = Unit {0}
TellsOneLine (Generate count) status old new = Unit {0}
TellsOneLine (Tower what) status old new = TellsTowerLine what status old new
TellsOneLine Bad status old new = Unit {0}

-- the one line for words of no form was written at status 2, and at any other a front of it
pub record TellsBadWords (status : ℕ) (old new : Option (List ℕ)) : Type 0 where
  pub whole : status ≡ 2 → ShowsAll old new bad_line
  pub front : ShowsFront old new bad_line
