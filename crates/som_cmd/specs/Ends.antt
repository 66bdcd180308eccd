-- How a call may end.
use Rattle.std.specs.Prelude.{ℕ, Bool, List, Option, Some, ◌≡◌, ◌≤◌, length}
use Rattle.som_model.specs.declared.program.Release.{Release}
use Rattle.som_model.specs.declared.program.ClientProgram.{ClientProgram}
use Rattle.som_model.specs.Bytes.{Files}
use Rattle.som_cmd_steps.specs.StoredImages.{IsClientUnder, IsUnder}
use Rattle.som_cmd_steps.specs.Outcomes as steps
use Rattle.som_cmd_check.specs.CheckEnds.{AreUnder}
use Rattle.som_sources.specs.declared.source.Source.{Source}
use Rattle.som_cmd_run.specs.Newest.{HoldsNewest}
use Rattle.som_cmd_run.specs.RunEnds.{AreUnder as AreRun}
use Rattle.som_cmd_tasks.specs.Newest.{Compiled, HoldsTasks}
use Rattle.som_cmd_tasks.specs.TasksEnds.{AreGroupUnder}
use Rattle.som_cmd.specs.Words.{Asked, Run, Show, Check, Tasks}
use Rattle.som_cmd.specs.Answer.{IsAnswer}
use Rattle.som_cmd.specs.Cause.{FailsOn}

-- as the answer says: its status, all of its text, its files; over a store, where it told its files
abbrev pub EndsAsTold : Asked → Option Files → ℕ → Option Files → Option (List ℕ) → Option (List ℕ) → Type 0
EndsAsTold asked files status new_files old new = steps.EndsAsTold (λ before. IsAnswer before asked) files status new_files old new

-- the store has failed, and the line that says so is all that was written
abbrev pub StoreFails : Asked → Option Files → ℕ → ℕ → Option (List ℕ) → Option (List ℕ) → Type 0
StoreFails asked files before now old new = steps.StoreFails (FailsOn files asked) before now old new

-- a front of the answer's text was written, or, where the store has failed, of the line that says so
abbrev pub ShowsSome : Asked → Option Files → ℕ → ℕ → Option (List ℕ) → Option (List ℕ) → Type 0
ShowsSome asked files before now old new = steps.ShowsSome (λ told. IsAnswer told asked) (FailsOn files asked) files before now old new

-- a run of one image on another is asked for, with so much fuel and these calls shown, and the store holds that of a client program and that of a release, which conform
pub record AreImagesOf (asked : Asked) (files : Option Files) (client library : List ℕ) (p : ClientProgram) (r : Release) (fuel : ℕ) (shows : List ℕ → Bool) : Type 0 where
  pub told : Files
  pub files_are : files ≡ Some told
  pub asked_is : asked ≡ Run client library fuel shows
  pub images : AreRun told client library p r

-- a run of one image on another is asked for, with so much fuel and these calls shown, and the store holds that of a client program that was compiled from these texts against the release at a place of accepted ones, and that of the newest of these
pub record AreNewest (asked : Asked) (files : Option Files) (earlier : List Release) (newest : Release) (place : ℕ) (texts : List Source) (p : ClientProgram) (fuel : ℕ) (shows : List ℕ → Bool) : Type 0 where
  pub told : Files
  pub files_are : files ≡ Some told
  pub client : List ℕ
  pub library : List ℕ
  pub asked_is : asked ≡ Run client library fuel shows
  pub images : HoldsNewest told client library earlier newest place texts p

-- an image is to be shown, and the store holds that of the release, which conforms
pub record IsImageOf (asked : Asked) (files : Option Files) (r : Release) : Type 0 where
  pub told : Files
  pub files_are : files ≡ Some told
  pub name : List ℕ
  pub asked_is : asked ≡ Show name
  pub under : IsUnder told name r

-- an image is to be shown, and the store holds that of the client program, which conforms
pub record IsImageOfClient (asked : Asked) (files : Option Files) (p : ClientProgram) : Type 0 where
  pub told : Files
  pub files_are : files ≡ Some told
  pub name : List ℕ
  pub asked_is : asked ≡ Show name
  pub under : IsClientUnder told name p

-- images are to be checked, and the store holds those of these releases, of two or more
pub record AreChecked (asked : Asked) (files : Option Files) (names : List (List ℕ)) (rs : List Release) : Type 0 where
  pub told : Files
  pub files_are : files ≡ Some told
  pub asked_is : asked ≡ Check names
  pub two : 2 ≤ length rs
  pub under : AreUnder told names rs

-- these turns of clients on a library are asked for, and the store holds the images of these client programs and that of a release, which conform
pub record AreTasksOf (asked : Asked) (files : Option Files) (library : List ℕ) (clients : List (List ℕ)) (r : Release) (ps : List ClientProgram) (turns : List ℕ) : Type 0 where
  pub told : Files
  pub files_are : files ≡ Some told
  pub asked_is : asked ≡ Tasks library turns clients
  pub images : AreGroupUnder told library clients r ps

-- these turns of clients on a library are asked for, and the store holds the images of clients that were compiled from texts against any of some accepted releases, and that of the newest of these
pub record AreNewestTasks (asked : Asked) (files : Option Files) (earlier : List Release) (newest : Release) (cs : List Compiled) (turns : List ℕ) : Type 0 where
  pub told : Files
  pub files_are : files ≡ Some told
  pub library : List ℕ
  pub clients : List (List ℕ)
  pub asked_is : asked ≡ Tasks library turns clients
  pub images : HoldsTasks told library clients earlier newest cs
