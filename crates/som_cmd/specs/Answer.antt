-- What a call prints and answers, and the files that it leaves, where neither store nor sink fails and memory lasts.
use Rattle.std.specs.Prelude.{ℕ, Bool, List, [], ◌∷◌, ◌++◌, codes}
use Rattle.som_model.specs.Bytes.{Files}
use Rattle.som_cmd_steps.specs.Endings.{Ending}
use Rattle.som_cmd_build.specs.LibraryAnswer.{IsLibraryAnswer}
use Rattle.som_cmd_build.specs.ClientAnswer.{IsClientAnswer}
use Rattle.som_cmd_check.specs.CheckAnswer.{IsCheckAnswer}
use Rattle.som_cmd_check.specs.ShowAnswer.{IsShowAnswer}
use Rattle.som_cmd_run.specs.RunAnswer.{IsRunAnswer}
use Rattle.som_cmd_tasks.specs.TasksAnswer.{IsTasksAnswer}
use Rattle.som_cmd_witness.specs.WitnessAnswer.{IsWitnessAnswer}
use Rattle.som_cmd_generate.specs.GenerateAnswer.{IsGenerateAnswer}
use Rattle.som_cmd_towers.specs.Asked.{TowerAsked}
use Rattle.som_cmd_towers.specs.Answer.{IsTowerAnswer}
use Rattle.som_cmd.specs.Words.{Library, Asked, Run, Show, Check, Client, Tasks, Witness, Generate, Tower, Bad}

abbrev pub bad_line : List ℕ
bad_line = codes "som: bad command line" ++ 10 ∷ []

-- The ending of what is asked for: words of no form are refused, and else it is that of the command, by its first step that refuses.
pub data IsAnswer (files : Files) : Asked → Ending → Type 0 where
  bad_words : IsAnswer files Bad (record { text = bad_line; status = 2; files = files })
  runs : (client library : List ℕ) (fuel : ℕ) (shows : List ℕ → Bool) (e : Ending) → IsRunAnswer client library fuel shows files e → IsAnswer files (Run client library fuel shows) e
  shows : (image : List ℕ) (e : Ending) → IsShowAnswer image files e → IsAnswer files (Show image) e
  checks : (images : List (List ℕ)) (e : Ending) → IsCheckAnswer images files e → IsAnswer files (Check images) e
  compiles : (out : List ℕ) (names : List (List ℕ)) (e : Ending) → IsLibraryAnswer out names files e → IsAnswer files (Library out names) e
  compiles_client : (out library : List ℕ) (names : List (List ℕ)) (e : Ending) → IsClientAnswer out library names files e → IsAnswer files (Client out library names) e
  takes_turns : (library turns : List ℕ) (clients : List (List ℕ)) (e : Ending) → IsTasksAnswer library turns clients files e → IsAnswer files (Tasks library turns clients) e
  shows_breach : (out old new : List ℕ) (e : Ending) → IsWitnessAnswer out old new files e → IsAnswer files (Witness out old new) e
  generates : (count : ℕ) (e : Ending) → IsGenerateAnswer count files e → IsAnswer files (Generate count) e
  answers_tower : (what : TowerAsked) (e : Ending) → IsTowerAnswer what files e → IsAnswer files (Tower what) e
