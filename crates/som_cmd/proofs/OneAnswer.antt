-- Whatever is asked for, there is one answer.
use Rattle.std.proofs.Common.{◌≡◌, refl, sym, ◌∙◌}
use Rattle.som_model.specs.Bytes.{Files}
use Rattle.som_cmd_steps.specs.Endings.{Ending}
use Rattle.som_cmd_build.proofs.PutAnswered.{library_answer, client_answer, one_library_answer, one_client_answer}
use Rattle.som_cmd_check.proofs.ShowLaws.{some_show_answer, one_show_answer}
use Rattle.som_cmd_check.proofs.CheckLaws.{some_check_answer, one_check_answer}
use Rattle.som_cmd_run.specs.RunAnswer.{run_ending}
use Rattle.som_cmd_tasks.specs.TasksAnswer.{tasks_ending}
use Rattle.som_cmd_witness.proofs.WitnessLaws.{one_witness_answer, some_witness_answer}
use Rattle.som_cmd_generate.proofs.AnswerLaws.{one_generate_answer, some_generate_answer}
use Rattle.som_cmd_tower_check.specs.TowerCheckAnswer.{line_ending, line_told}
use Rattle.som_cmd_tower_make.proofs.TowerAnswered as making
use Rattle.som_cmd_tower_run.specs.TowerRunAnswer.{tower_run_ending}
use Rattle.som_cmd_towers.specs.Answer.{IsTowerAnswer}
use Rattle.som_cmd_towers.specs.Asked.{TowerAsked, IsFormed, Make, Compare, RunOn}
use Rattle.som_cmd.specs.Answer.{runs, shows, IsAnswer, bad_words, checks, compiles, compiles_client, takes_turns, shows_breach, generates, answers_tower, bad_line}
use Rattle.som_cmd.specs.Words.{Asked, Run, Show, Check, Library, Client, Tasks, Witness, Generate, Tower, Bad}
use Rattle.som_cmd.proofs.WordLaws.{IsAnswerable}

-- there is an answer to what is asked for of towers
some_tower_answer : (files : Files) (what : TowerAsked) → IsFormed what → (told : Ending) × IsTowerAnswer what files told
some_tower_answer files (Make out below names) formed = making.tower_answer files out below names formed.some formed.few formed.one_main
some_tower_answer files (Compare old new) formed = (line_ending files (line_told old new files), refl)
some_tower_answer files (RunOn client below fuel) formed = (tower_run_ending client below fuel files, refl)

-- and no other
one_tower_answer : (files : Files) (what : TowerAsked) (a b : Ending) → IsTowerAnswer what files a → IsTowerAnswer what files b → a ≡ b
one_tower_answer files (Make out below names) a b x y = making.one_tower_answer files out below names a b x y
one_tower_answer files (Compare old new) a b x y = x ∙ sym y
one_tower_answer files (RunOn client below fuel) a b x y = x ∙ sym y

-- there is an answer to what has as many files with a main as it needs, or no more classes than can be generated
pub some_answer : (files : Files) (asked : Asked) → IsAnswerable asked → (told : Ending) × IsAnswer files asked told
some_answer files (Run c l fuel calls) mains = (run_ending c l fuel calls files, runs c l fuel calls (run_ending c l fuel calls files) refl)
some_answer files (Show n) mains = let a = some_show_answer files n in (a.0, shows n a.0 a.1)
some_answer files (Check ns) mains = let a = some_check_answer files ns in (a.0, checks ns a.0 a.1)
some_answer files (Library out names) mains = let a = library_answer files out names in (a.0, compiles out names a.0 a.1)
some_answer files (Client out library names) mains = let a = client_answer files out library names mains in (a.0, compiles_client out library names a.0 a.1)
some_answer files (Tasks l ts cs) are = (tasks_ending l ts cs files, takes_turns l ts cs (tasks_ending l ts cs files) refl)
some_answer files (Witness out old new) mains = let a = some_witness_answer files out old new in (a.0, shows_breach out old new a.0 a.1)
some_answer files (Generate n) few = let a = some_generate_answer n few files in (a.0, generates n a.0 a.1)
some_answer files (Tower what) formed = let a = some_tower_answer files what formed in (a.0, answers_tower what a.0 a.1)
some_answer files Bad mains = (record { text = bad_line; status = 2; files = files }, bad_words)

-- and no other
pub one_answer : (files : Files) (asked : Asked) (a b : Ending) → IsAnswer files asked a → IsAnswer files asked b → a ≡ b
one_answer files (Run c l fuel calls) a b (runs _ _ _ _ _ x) (runs _ _ _ _ _ y) = x ∙ sym y
one_answer files (Show n) a b (shows _ _ x) (shows _ _ y) = one_show_answer files n a b x y
one_answer files (Check ns) a b (checks _ _ x) (checks _ _ y) = one_check_answer files ns a b x y
one_answer files (Library out names) a b (compiles _ _ _ x) (compiles _ _ _ y) = one_library_answer files out names a b x y
one_answer files (Client out library names) a b (compiles_client _ _ _ _ x) (compiles_client _ _ _ _ y) = one_client_answer files out library names a b x y
one_answer files (Tasks l ts cs) a b (takes_turns _ _ _ _ x) (takes_turns _ _ _ _ y) = x ∙ sym y
one_answer files (Witness out old new) a b (shows_breach _ _ _ _ x) (shows_breach _ _ _ _ y) = one_witness_answer files out old new a b x y
one_answer files (Generate n) a b (generates _ _ x) (generates _ _ y) = one_generate_answer n files a b x y
one_answer files (Tower what) a b (answers_tower _ _ x) (answers_tower _ _ y) = one_tower_answer files what a b x y
one_answer files Bad a b bad_words bad_words = refl
