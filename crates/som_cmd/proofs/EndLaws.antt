-- What a call comes to is what the command comes to that it asks for.
use Rattle.std.proofs.Common.{◌≡◌, ◌≢◌, ◌⊎◌, ◌==◌, ℕ, Bool, true, false, List, length, slice_get, Option, Some, None, refl, sym, subst, ◌∙◌, inl, inr, arith}
use Rattle.std.proofs.lemmas.Bool.{eqb-true}
use Rattle.std.specs.FinMap.{empty}
use Rattle.som_model.specs.declared.program.Release.{Release}
use Rattle.som_model.specs.declared.program.ClientProgram.{ClientProgram}
use Rattle.som_model.specs.Bytes.{Files}
use Rattle.som_model.specs.Compatible.{CompatBreach, Compatible, first_break}
use Rattle.som_model.specs.Lists.{Mem}
use Rattle.som_io.specs.Outside.{Rose, ShowsAll, ShowsFront}
use Rattle.som_cmd_steps.proofs.OutcomeLaws.{ends_with, told_with, some_with}
use Rattle.som_cmd_steps.proofs.Printed.{nothing_written, shows_nothing}
use Rattle.som_cmd_steps.proofs.Statuses.{differs}
use Rattle.som_cmd_steps.specs.Endings.{Ending}
use Rattle.som_cmd_steps.specs.Answering.{Answering}
use Rattle.som_cmd_steps.specs.Outcomes as steps
use Rattle.som_cmd_build.proofs.PutEndLaws.{puts_by, puts_client_by}
use Rattle.som_cmd_build.specs.LibraryAnswer.{IsLibraryAnswer}
use Rattle.som_cmd_build.specs.ClientAnswer.{IsClientAnswer}
use Rattle.som_cmd_check.proofs.ShowEndLaws.{shows_by, shows_client_by}
use Rattle.som_cmd_check.proofs.CheckEndLaws.{accepted_by, breach_by}
use Rattle.som_cmd_check.specs.CheckAnswer.{IsCheckAnswer, first_not_kept}
use Rattle.som_cmd_check.specs.ShowEnds.{ShowsProgram, ShowsRelease}
use Rattle.som_cmd_check.specs.CheckEnds.{TellsAccepted, TellsBreach}
use Rattle.som_cmd_check.specs.ShowAnswer.{IsShowAnswer}
use Rattle.som_model.specs.Class.{interface_of}
use Rattle.som_semantics.specs.Means.{means as meaning_of}
use Rattle.som_semantics.specs.RunText.{run_text}
use Rattle.som_sources.specs.declared.source.Source.{Source}
use Rattle.som_cmd_run.proofs.NewestLaws.{newest_keeps, newest_metaclasses, newest_under}
use Rattle.som_cmd_run.proofs.RunEndLaws.{front_by, means_by, unkept_by}
use Rattle.som_cmd_run.specs.Newest.{RunsOnNewest}
use Rattle.som_cmd_run.specs.RunEnds.{RunsAs, TellsNotKept}
use Rattle.som_cmd_run.specs.RunAnswer.{IsRunAnswer}
use Rattle.som_cmd_tasks.proofs.NewestLaws.{all_metaclasses, group_under, newest_keeps_all}
use Rattle.som_cmd_tasks.proofs.TasksEndLaws.{taken_so, tells_by}
use Rattle.som_cmd_tasks.specs.Ends.{tasks_text}
use Rattle.som_cmd_tasks.specs.Newest.{Compiled, TurnsOnNewest, programs_of}
use Rattle.som_cmd_tasks.specs.TasksAnswer.{IsTasksAnswer, clients_on}
use Rattle.som_cmd_tasks.specs.TasksEnds.{KeepsAll, PrintsAlone, TellsTurns}
use Rattle.som_cmd_witness.proofs.WitnessEndLaws.{witnessed_by}
use Rattle.som_cmd_witness.specs.WitnessAnswer.{IsWitnessAnswer}
use Rattle.som_generator.specs.declared.made.Made.{Made}
use Rattle.som_cmd_generate.proofs.AnswerLaws.{generated_by}
use Rattle.som_cmd_generate.specs.GenerateAnswer.{IsGenerateAnswer}
use Rattle.som_cmd_generate.specs.GenerateEnds.{TellsGenerated}
use Rattle.som_cmd_generate.specs.Printing.{ShowsSomeOf}
use Rattle.som_cmd.proofs.OneAnswer.{some_answer}
use Rattle.som_cmd.specs.Words.{Asked, Bad, Library, Run, Show, Check, Client, Tasks, Witness, Generate}
use Rattle.som_cmd.specs.Answer.{IsAnswer, bad_words, runs, shows, checks, bad_line, compiles, compiles_client, takes_turns, shows_breach}
use Rattle.som_cmd.specs.Cause.{FailsOn}
use Rattle.som_cmd.specs.Ends.{EndsAsTold, StoreFails, ShowsSome, AreImagesOf, AreNewest, AreNewestTasks, AreTasksOf, IsImageOf, IsImageOfClient, AreChecked}
use Rattle.som_cmd.specs.Generating.{Generates, GeneratesAsked, IsMadeFor}
use Rattle.som_cmd.proofs.WordLaws.{IsAnswerable}
use Rattle.som_cmd.specs.Witnessing.{AreWitnessed, TellsWitnessed}
use Rattle.som_cmd.specs.Refused.{TellsBadWords, TellsOneLine, statuses_of}
use Rattle.som_cmd.specs.PutEnds.{KeepsFiles, AreTextsOf, AreClientTextsOf, PutsProgram, PutsRelease}

-- ---- what a command comes to is what the call comes to that asks for it

module _ (asked by : Asked) (is : by ≡ asked) (IsOwn : Answering) (into : (files : Files) (e : Ending) → IsOwn files e → IsAnswer files by e) where
  pub answered : (files : Option Files) (status : ℕ) (new_files : Option Files) (old new : Option (List ℕ)) → steps.EndsAsTold IsOwn files status new_files old new → EndsAsTold asked files status new_files old new
  answered files status new_files old new e = subst (λ (x : Asked). EndsAsTold x files status new_files old new) is (told_with IsOwn (λ before. IsAnswer before by) into files status new_files old new e)

  pub front : (files : Option Files) (count now : ℕ) (old new : Option (List ℕ)) → steps.ShowsSome IsOwn (FailsOn files by) files count now old new → ShowsSome asked files count now old new
  front files count now old new s =
      subst (λ (x : Asked). ShowsSome x files count now old new) is (some_with IsOwn (λ before. IsAnswer before by) (FailsOn files by) into files count now old new s)

pub store_failed : (asked by : Asked) → by ≡ asked → (files : Option Files) (count now : ℕ) (old new : Option (List ℕ)) → steps.StoreFails (FailsOn files by) count now old new → StoreFails asked files count now old new
store_failed asked by is files count now old new f = subst (λ (x : Asked). StoreFails x files count now old new) is f

pub files_kept : (asked by : Asked) → by ≡ asked → (files : Option Files) (count now status : ℕ) (new_files : Option Files) (old new : Option (List ℕ)) → KeepsFiles by files count now status new_files old new
    → KeepsFiles asked files count now status new_files old new
files_kept asked by is files count now status new_files old new k = subst (λ (x : Asked). KeepsFiles x files count now status new_files old new) is k

pub among : (asked by : Asked) → by ≡ asked → (status : ℕ) → Mem status (statuses_of by) → Mem status (statuses_of asked)
among asked by is status m = subst (λ (x : Asked). Mem status (statuses_of x)) is m

pub one_line : (asked by : Asked) → by ≡ asked → (status : ℕ) (old new : Option (List ℕ)) → TellsOneLine by status old new → TellsOneLine asked status old new
one_line asked by is status old new t = subst (λ (x : Asked). TellsOneLine x status old new) is t

-- ---- what is generated is so whatever files there are

pub generated_told : (n : ℕ) (files : Option Files) (status : ℕ) (old new : Option (List ℕ)) → ((told : Files) → steps.EndsAs (IsGenerateAnswer n told) status (Some told) old new) → steps.EndsAsTold (IsGenerateAnswer n) files status files old new
generated_told n None status old new e = tt
generated_told n (Some told) status old new e = e told

pub generated_some : (n : ℕ) (files : Option Files) (count now : ℕ) (old new : Option (List ℕ)) → ((told : Files) → ShowsSomeOf (IsGenerateAnswer n told) old new) → steps.ShowsSome (IsGenerateAnswer n) (FailsOn files (Generate n)) files count now old new
generated_some n None count now old new s = tt
generated_some n (Some told) count now old new s = inl (s told)

pub generated_asked : (asked by : Asked) → by ≡ asked → (status : ℕ) (old new : Option (List ℕ)) → GeneratesAsked by status old new → GeneratesAsked asked status old new
generated_asked asked by is status old new g = subst (λ (x : Asked). GeneratesAsked x status old new) is g

no_files : Files
no_files = empty

-- it tells what is generated
pub generated : (asked : Asked) (status : ℕ) (old new : Option (List ℕ)) → GeneratesAsked asked status old new → (n : ℕ) (m : Made) → IsMadeFor asked n m → status ≢ 8 → status ≢ 10 → TellsGenerated n m status old new
generated asked status old new g n m is not8 not10 =
    let as_asked : Generates n status old new = generated_asked (Generate n) asked is.asked_is status old new g in
    generated_by n m is.made no_files status (Some no_files) old new (as_asked.whole not8 not10 no_files)

-- ---- words of no form

two_apart : (status k : ℕ) → status ≡ 2 → 2 ≢ k → status ≡ k → ⊥
two_apart status k e f g = f (sym e ∙ g)

ten_is_two : ◌≡◌ {A = ℕ} 10 2 → ⊥
ten_is_two e = omega arith

is_bad : (asked : Asked) → Bad ≡ asked → (before : Files) → IsAnswer before asked (record { text = bad_line; status = 2; files = before })
is_bad asked e before = subst (λ (a : Asked). IsAnswer before a (record { text = bad_line; status = 2; files = before })) e bad_words

pub bad_ends : (asked : Asked) → Bad ≡ asked → (files : Option Files) (status : ℕ) → status ≡ 2 → (new_files : Option Files) → new_files ≡ files
    → (old new : Option (List ℕ)) → ShowsAll old new bad_line → EndsAsTold asked files status new_files old new
bad_ends asked e None status is new_files same old new shown = tt
bad_ends asked e (Some before) status is new_files same old new shown =
    record { told = record { text = bad_line; status = 2; files = before }; is_answer = is_bad asked e before; status_is = is; text_is = shown; files_are = same }

pub bad_fronts : (asked : Asked) → Bad ≡ asked → (files : Option Files) (count now : ℕ) (old new : Option (List ℕ)) → ShowsFront old new bad_line → ShowsSome asked files count now old new
bad_fronts asked e None count now old new front = tt
bad_fronts asked e (Some before) count now old new front = inl (record { text = bad_line; status = 2; files = before }, is_bad asked e before, front)

-- its line was written, or a front of it
pub bad_told : (status : ℕ) (old new : Option (List ℕ)) (line : List ℕ) → line ≡ bad_line → (status ≢ 8 → status ≢ 10 → ShowsAll old new line) → ShowsFront old new line → TellsBadWords status old new
bad_told status old new line is all some = record {
  whole = λ two. subst (ShowsAll old new) is (all (λ h. two_apart status 8 two (λ k. omega arith) h) (λ h. two_apart status 10 two (λ k. omega arith) h));
  front = subst (ShowsFront old new) is some;
}

-- or nothing was
pub bad_untold : (written : Option (List ℕ)) → TellsBadWords 10 written written
bad_untold written = record { whole = λ two. absurd (ten_is_two two); front = shows_nothing written bad_line }

-- with the status of such words, or since the sink failed or memory ran out
by_failures : (status : ℕ) → (status ≢ 8 → status ≢ 10 → status ≡ 2) → (a b : Bool) → (status == 8) ≡ a → (status == 10) ≡ b → Mem status (statuses_of Bad)
by_failures status is true b e f = inr (inl (eqb-true status 8 e))
by_failures status is false true e f = inr (inr (inl (eqb-true status 10 f)))
by_failures status is false false e f = inl (is (differs status 8 e) (differs status 10 f))

pub bad_status : (status : ℕ) → (status ≢ 8 → status ≢ 10 → status ≡ 2) → Mem status (statuses_of Bad)
bad_status status is = by_failures status is (status == 8) (status == 10) refl refl

-- where nothing was written, a front of the answer's text was
pub none_written : (asked : Asked) → IsAnswerable asked → (files : Option Files) (count now : ℕ) (written : Option (List ℕ)) → ShowsSome asked files count now written written
none_written asked mains files count now written = nothing_written (λ before. IsAnswer before asked) (FailsOn files asked) (λ before. some_answer before asked mains) files count now written

-- ---- the end of the call is that of the command that it asks for

pub ends_by : (asked by : Asked) (files : Option Files) (told : Files) → asked ≡ by → files ≡ Some told → (status : ℕ) (new_files : Option Files) (old new : Option (List ℕ)) → EndsAsTold asked files status new_files old new
    → steps.EndsAs (λ e. IsAnswer told by e) status new_files old new
ends_by asked by files told is same status new_files old new e =
    subst (λ (x : Option Files). EndsAsTold by x status new_files old new) same (subst (λ (x : Asked). EndsAsTold x files status new_files old new) is e)

run_alone : (files : Files) (c l : List ℕ) (fuel : ℕ) (calls : List ℕ → Bool) (e : Ending) → IsAnswer files (Run c l fuel calls) e → IsRunAnswer c l fuel calls files e
run_alone files c l fuel calls e (runs _ _ _ _ _ a) = a

show_alone : (files : Files) (n : List ℕ) (e : Ending) → IsAnswer files (Show n) e → IsShowAnswer n files e
show_alone files n e (shows _ _ a) = a

check_alone : (files : Files) (ns : List (List ℕ)) (e : Ending) → IsAnswer files (Check ns) e → IsCheckAnswer ns files e
check_alone files ns e (checks _ _ a) = a

library_alone : (files : Files) (out : List ℕ) (names : List (List ℕ)) (e : Ending) → IsAnswer files (Library out names) e → IsLibraryAnswer out names files e
library_alone files out names e (compiles _ _ _ a) = a

client_alone : (files : Files) (out library : List ℕ) (names : List (List ℕ)) (e : Ending) → IsAnswer files (Client out library names) e → IsClientAnswer out library names files e
client_alone files out library names e (compiles_client _ _ _ _ a) = a

tasks_alone : (files : Files) (l ts : List ℕ) (cs : List (List ℕ)) (e : Ending) → IsAnswer files (Tasks l ts cs) e → IsTasksAnswer l ts cs files e
tasks_alone files l ts cs e (takes_turns _ _ _ _ a) = a

witness_alone : (files : Files) (out older newer : List ℕ) (e : Ending) → IsAnswer files (Witness out older newer) e → IsWitnessAnswer out older newer files e
witness_alone files out older newer e (shows_breach _ _ _ _ a) = a

-- each client program prints on any release what it prints alone, whatever the turns are
abbrev pub PrintAlone : Type 0
PrintAlone = (r : Release) (ps : List ClientProgram) (turns : List ℕ) (i : ℕ) (p : ClientProgram) → slice_get ps i ≡ Some p → PrintsAlone r p (clients_on r ps) turns i

module _ (asked : Asked) (files : Option Files) (status : ℕ) (new_files : Option Files) (old new : Option (List ℕ)) (e : EndsAsTold asked files status new_files old new) where
  -- it is the end of the run that is asked for
  run_by : (told : Files) (c l : List ℕ) (fuel : ℕ) (calls : List ℕ → Bool) → asked ≡ Run c l fuel calls → files ≡ Some told → steps.EndsAs (IsRunAnswer c l fuel calls told) status new_files old new
  run_by told c l fuel calls is same =
      ends_with (λ x. IsAnswer told (Run c l fuel calls) x) (IsRunAnswer c l fuel calls told) (run_alone told c l fuel calls) status new_files old new
      (ends_by asked (Run c l fuel calls) files told is same status new_files old new e)

  -- as the client means
  pub means : (client library : List ℕ) (p : ClientProgram) (r : Release) (fuel : ℕ) (calls : List ℕ → Bool) → AreImagesOf asked files client library p r fuel calls → Compatible p.base (interface_of r) → RunsAs p r fuel calls status old new
  means client library p r fuel calls m kept = means_by m.told client library p r m.images fuel calls status new_files old new (run_by m.told client library fuel calls m.asked_is m.files_are) kept

  -- or that tells what the library doesn't keep
  pub unkept : (client library : List ℕ) (p : ClientProgram) (r : Release) (fuel : ℕ) (calls : List ℕ → Bool) (b : CompatBreach) → AreImagesOf asked files client library p r fuel calls → first_break p.base (interface_of r) ≡ Some b
      → TellsNotKept library b status old new
  unkept client library p r fuel calls b m is = unkept_by m.told client library p r m.images fuel calls status new_files old new (run_by m.told client library fuel calls m.asked_is m.files_are) b is

  -- or as the client means on the newest of accepted releases
  pub means_on_newest : (earlier : List Release) (newest : Release) (place : ℕ) (texts : List Source) (p : ClientProgram) (fuel : ℕ) (calls : List ℕ → Bool) → AreNewest asked files earlier newest place texts p fuel calls
      → RunsAs p newest fuel calls status old new
  means_on_newest earlier newest place texts p fuel calls m =
      means_by m.told m.client m.library p newest (newest_under m.told m.client m.library earlier newest place texts p m.images) fuel calls status new_files old new
      (run_by m.told m.client m.library fuel calls m.asked_is m.files_are) (newest_keeps m.told m.client m.library earlier newest place texts p m.images)

  -- it is the end of the turns that are asked for
  turns_by : (told : Files) (l ts : List ℕ) (cs : List (List ℕ)) → asked ≡ Tasks l ts cs → files ≡ Some told → steps.EndsAs (IsTasksAnswer l ts cs told) status new_files old new
  turns_by told l ts cs is same =
      ends_with (λ x. IsAnswer told (Tasks l ts cs) x) (IsTasksAnswer l ts cs told) (tasks_alone told l ts cs) status new_files old new
      (ends_by asked (Tasks l ts cs) files told is same status new_files old new e)

  -- as the clients mean
  pub turns_told : PrintAlone → (l : List ℕ) (cs : List (List ℕ)) (r : Release) (ps : List ClientProgram) (turns : List ℕ) → AreTasksOf asked files l cs r ps turns → KeepsAll r ps → TellsTurns r ps turns status old new
  turns_told law l cs r ps turns m keeps = tells_by m.told l cs r ps m.images keeps turns status new_files old new (turns_by m.told l turns cs m.asked_is m.files_are) (law r ps turns)

  -- or as they mean on the newest of accepted releases
  pub turns_on_newest : PrintAlone → (earlier : List Release) (newest : Release) (cs : List Compiled) (turns : List ℕ) → AreNewestTasks asked files earlier newest cs turns → TellsTurns newest (programs_of cs) turns status old new
  turns_on_newest law earlier newest cs turns m =
      tells_by m.told m.library m.clients newest (programs_of cs) (group_under m.told m.library earlier newest m.clients cs m.images) (newest_keeps_all m.told m.library earlier newest m.clients cs m.images) turns status new_files old new
      (turns_by m.told m.library turns m.clients m.asked_is m.files_are) (law newest (programs_of cs) turns)

  -- that shows the release
  shown_by : (told : Files) (n : List ℕ) → asked ≡ Show n → files ≡ Some told → steps.EndsAs (IsShowAnswer n told) status new_files old new
  shown_by told n is same =
      ends_with (λ x. IsAnswer told (Show n) x) (IsShowAnswer n told) (show_alone told n) status new_files old new (ends_by asked (Show n) files told is same status new_files old new e)

  pub shown : (r : Release) → IsImageOf asked files r → ShowsRelease r status old new
  shown r m = shows_by m.name m.told status new_files old new (shown_by m.told m.name m.asked_is m.files_are) r m.under

  -- or the client program
  pub shown_client : (p : ClientProgram) → IsImageOfClient asked files p → ShowsProgram p status old new
  shown_client p m = shows_client_by m.name m.told status new_files old new (shown_by m.told m.name m.asked_is m.files_are) p m.under

  checked_by : (names : List (List ℕ)) (rs : List Release) → (m : AreChecked asked files names rs) → steps.EndsAs (IsCheckAnswer names m.told) status new_files old new
  checked_by names rs m =
      ends_with (λ x. IsAnswer m.told (Check names) x) (IsCheckAnswer names m.told) (check_alone m.told names) status new_files old new (ends_by asked (Check names) files m.told m.asked_is m.files_are status new_files old new e)

  -- that accepts exactly the lists that are to be accepted
  pub accepted : (names : List (List ℕ)) (rs : List Release) → AreChecked asked files names rs → TellsAccepted rs status old new
  accepted names rs m = accepted_by names m.told status new_files old new (checked_by names rs m) rs m.two m.under

  -- and tells what isn't kept in the others
  pub breach : (names : List (List ℕ)) (rs : List Release) (number : ℕ) (b : CompatBreach) → AreChecked asked files names rs → first_not_kept rs ≡ Some (number, b) → TellsBreach names number b status old new
  breach names rs number b m told = breach_by names m.told status new_files old new (checked_by names rs m) rs m.two m.under number b told

  -- what stands then under the names
  module _ (count now : ℕ) (k : KeepsFiles asked files count now status new_files old new) where
    left_by : (by : Asked) (told : Files) → asked ≡ by → files ≡ Some told → KeepsFiles by (Some told) count now status new_files old new
    left_by by told is same = subst (λ (x : Option Files). KeepsFiles by x count now status new_files old new) same (subst (λ (x : Asked). KeepsFiles x files count now status new_files old new) is k)

    -- the image of the release that the texts stand for
    pub compiled : (out : List ℕ) (r : Release) → AreTextsOf asked files out r → PutsRelease files out r status new_files old new
    compiled out r m = record {
      told = m.told;
      files_are = m.files_are;
      puts = puts_by out m.names m.told status new_files old new r
          (ends_with (λ x. IsAnswer m.told (Library out m.names) x) (IsLibraryAnswer out m.names m.told) (library_alone m.told out m.names) status new_files old new
          (ends_by asked (Library out m.names) files m.told m.asked_is m.files_are status new_files old new e)) count now (left_by (Library out m.names) m.told m.asked_is m.files_are) m.texts;
    }

    -- or that of the client program
    pub client_compiled : (out : List ℕ) (p : ClientProgram) → AreClientTextsOf asked files out p → PutsProgram files out p status new_files old new
    client_compiled out p m = record {
      told = m.told;
      files_are = m.files_are;
      puts = puts_client_by out m.library m.names m.told status new_files old new p
          (ends_with (λ x. IsAnswer m.told (Client out m.library m.names) x) (IsClientAnswer out m.library m.names m.told) (client_alone m.told out m.library m.names) status new_files old new
          (ends_by asked (Client out m.library m.names) files m.told m.asked_is m.files_are status new_files old new e)) count now (left_by (Client out m.library m.names) m.told m.asked_is m.files_are) m.texts;
    }

    -- what becomes of two releases
    pub witnessed : (out older newer : List ℕ) (o n : Release) → AreWitnessed asked files out older newer o n → TellsWitnessed o n files out status new_files old new
    witnessed out older newer o n m = record {
      told = m.told;
      files_are = m.files_are;
      tells = witnessed_by m.told out older newer status count now new_files old new
          (ends_with (λ x. IsAnswer m.told (Witness out older newer) x) (IsWitnessAnswer out older newer m.told) (witness_alone m.told out older newer) status new_files old new
          (ends_by asked (Witness out older newer) files m.told m.asked_is m.files_are status new_files old new e)) (left_by (Witness out older newer) m.told m.asked_is m.files_are) o n m.under;
    }

-- ---- the newest of accepted releases

module _ (asked : Asked) (files : Option Files) (earlier : List Release) (newest : Release) (place : ℕ) (texts : List Source) (p : ClientProgram) (fuel : ℕ) (calls : List ℕ → Bool) (m : AreNewest asked files earlier newest place texts p fuel calls) where
  -- a front of a run's answer is one of what the client means
  front_of : (old new : Option (List ℕ)) (e : Ending) → IsAnswer m.told (Run m.client m.library fuel calls) e → ShowsFront old new e.text → ShowsFront old new (run_text calls (meaning_of newest p fuel))
  front_of old new e a shown =
      subst (λ (x : Ending). ShowsFront old new x.text)
      (front_by m.told m.client m.library p newest (newest_under m.told m.client m.library earlier newest place texts p m.images) fuel calls e (run_alone m.told m.client m.library fuel calls e a)
      (newest_keeps m.told m.client m.library earlier newest place texts p m.images)) shown

  front_told : (by : Asked) (before : Option Files) → by ≡ Run m.client m.library fuel calls → before ≡ Some m.told → (count now : ℕ) (old new : Option (List ℕ)) → ShowsSome by before count now old new
      → ShowsFront old new (run_text calls (meaning_of newest p fuel)) ⊎ (Rose count now × (line : List ℕ) × FailsOn before by line × ShowsFront old new line)
  front_told by None is same count now old new s = absurd cc
  front_told by (Some told) is same count now old new (inl (e, a, shown)) =
      inl (front_of old new e (subst (λ (x : Files). IsAnswer x (Run m.client m.library fuel calls) e) (some_files told m.told same) (subst (λ (x : Asked). IsAnswer told x e) is a)) shown)
    where
      some_files : (a b : Files) → Some a ≡ Some b → a ≡ b
      some_files a b e = cc
  front_told by (Some told) is same count now old new (inr (rose, line, is_line, shown)) = inr (rose, line, is_line, shown)

  -- so a call comes to what the client means on the newest, unless the store or the sink failed or memory ran out
  pub newest_runs : (status count now sink_before sink_now : ℕ) (new_files : Option Files) (old new : Option (List ℕ)) → (status ≢ 6 → status ≢ 8 → status ≢ 10 → EndsAsTold asked files status new_files old new)
      → (status ≡ 6 → StoreFails asked files count now old new) → (status ≡ 8 → Rose sink_before sink_now) → ((status ≡ 8) ⊎ (status ≡ 10) → ShowsSome asked files count now old new)
      → RunsOnNewest p newest fuel calls (FailsOn files asked) count now sink_before sink_now status old new
  newest_runs status count now sink_before sink_now new_files old new ends fails sink front = record {
    runs = λ not6 not8 not10. means_on_newest asked files status new_files old new (ends not6 not8 not10) earlier newest place texts p fuel calls m;
    store_failed = fails;
    sink_failed = sink;
    front = λ either. front_told asked files m.asked_is m.files_are count now old new (front either);
    metaclasses = newest_metaclasses m.told m.client m.library earlier newest place texts p m.images;
  }

module _ (asked : Asked) (files : Option Files) (earlier : List Release) (newest : Release) (cs : List Compiled) (turns : List ℕ) (m : AreNewestTasks asked files earlier newest cs turns) where
  abbrev ps : List ClientProgram
  ps = programs_of cs

  abbrev text : List ℕ
  text = tasks_text (clients_on newest ps) turns (length ps)

  -- a front of an answer for these turns is one of what the clients mean
  turns_front_of : (old new : Option (List ℕ)) (e : Ending) → IsAnswer m.told (Tasks m.library turns m.clients) e → ShowsFront old new e.text → ShowsFront old new text
  turns_front_of old new e a shown =
      subst (λ (x : Ending). ShowsFront old new x.text)
      (taken_so m.told m.library m.clients newest ps (group_under m.told m.library earlier newest m.clients cs m.images) (newest_keeps_all m.told m.library earlier newest m.clients cs m.images) turns e
      (tasks_alone m.told m.library turns m.clients e a)) shown

  turns_front_told : (by : Asked) (before : Option Files) → by ≡ Tasks m.library turns m.clients → before ≡ Some m.told → (count now : ℕ) (old new : Option (List ℕ)) → ShowsSome by before count now old new
      → ShowsFront old new text ⊎ (Rose count now × (line : List ℕ) × FailsOn before by line × ShowsFront old new line)
  turns_front_told by None is same count now old new s = absurd cc
  turns_front_told by (Some told) is same count now old new (inl (e, a, shown)) =
      inl (turns_front_of old new e (subst (λ (x : Files). IsAnswer x (Tasks m.library turns m.clients) e) (one_told told m.told same) (subst (λ (x : Asked). IsAnswer told x e) is a)) shown)
    where
      one_told : (a b : Files) → Some a ≡ Some b → a ≡ b
      one_told a b e = cc
  turns_front_told by (Some told) is same count now old new (inr (rose, line, is_line, shown)) = inr (rose, line, is_line, shown)

  -- so a call comes to what the clients mean on the newest, turn by turn, unless the store or the sink failed or memory ran out
  pub newest_turns : PrintAlone → (status count now sink_before sink_now : ℕ) (new_files : Option Files) (old new : Option (List ℕ)) → (status ≢ 6 → status ≢ 8 → status ≢ 10 → EndsAsTold asked files status new_files old new)
      → (status ≡ 6 → StoreFails asked files count now old new) → (status ≡ 8 → Rose sink_before sink_now) → ((status ≡ 8) ⊎ (status ≡ 10) → ShowsSome asked files count now old new)
      → TurnsOnNewest ps newest turns (FailsOn files asked) count now sink_before sink_now status old new
  newest_turns law status count now sink_before sink_now new_files old new ends fails sink front = record {
    turns_told = λ not6 not8 not10. turns_on_newest asked files status new_files old new (ends not6 not8 not10) law earlier newest cs turns m;
    store_failed = fails;
    sink_failed = sink;
    front = λ either. turns_front_told asked files m.asked_is m.files_are count now old new (front either);
    metaclasses = all_metaclasses m.told m.library earlier newest m.clients cs m.images;
  }
