-- Clients that were compiled against any of a list of releases, on the newest of them.
use Rattle.std.specs.Prelude.{◌≢◌, ◌≡◌, ◌⊎◌, ℕ, List, [], ◌∷◌, ◌++◌, length, map, Option}
use Rattle.som_model.specs.declared.program.Release.{Release}
use Rattle.som_model.specs.declared.program.ClientProgram.{ClientProgram}
use Rattle.som_model.specs.Bytes.{Files}
use Rattle.som_model.specs.Classes.{classes}
use Rattle.som_model.specs.Compatible.{Accepted}
use Rattle.som_model.specs.Images.{library_image}
use Rattle.som_model.specs.Lists.{Mem}
use Rattle.som_io.specs.Outside.{Rose, ShowsFront}
use Rattle.som_sources.specs.declared.source.Source.{Source}
use Rattle.som_cmd_steps.specs.Outcomes.{StoreFails}
use Rattle.som_cmd_steps.specs.StoredImages.{HoldsImage}
use Rattle.som_cmd_run.specs.Newest.{HoldsNewest, MetaclassesDescend}
use Rattle.som_cmd_tasks.specs.Ends.{tasks_text}
use Rattle.som_cmd_tasks.specs.TasksAnswer.{clients_on}
use Rattle.som_cmd_tasks.specs.TasksEnds.{TellsTurns}

-- a client program, the texts for which it stands, and the place of the release against which these were compiled
pub record Compiled : Type 0 where
  pub place : ℕ
  pub texts : List Source
  pub program : ClientProgram

abbrev pub programs_of : List Compiled → List ClientProgram
programs_of cs = map (λ (c : Compiled). c.program) cs

-- for each name a client that was compiled from texts against the release at a place of accepted ones, whose image stands there, with that of the newest of these under the library's name
abbrev pub HoldAllNewest : Files → List ℕ → List Release → Release → List (List ℕ) → List Compiled → Type 0
HoldAllNewest files library earlier newest [] [] = Unit {0}
HoldAllNewest files library earlier newest [] (c ∷ cs) = ⊥
HoldAllNewest files library earlier newest (n ∷ ns) [] = ⊥
HoldAllNewest files library earlier newest (n ∷ ns) (c ∷ cs) = HoldsNewest files n library earlier newest c.place c.texts c.program × HoldAllNewest files library earlier newest ns cs

-- each release was accepted against the one before it, and the store holds the image of the newest under the library's name, and those of clients that were compiled against any of them
pub record HoldsTasks (files : Files) (library : List ℕ) (clients : List (List ℕ)) (earlier : List Release) (newest : Release) (cs : List Compiled) : Type 0 where
  pub accepted : Accepted (earlier ++ newest ∷ [])
  pub release : HoldsImage files library (library_image newest)
  pub all : HoldAllNewest files library earlier newest clients cs

-- What a call comes to that gives turns to the clients on the release. It prints the text of these turns, by what the clients mean among the release's classes, and the end of each, with status 0,
-- unless the store failed, whose count of faults rose then, and the line that says so alone was written; or the sink failed, whose count rose then, or memory ran out,
-- and a front of that text was written, or, where the store failed, of that line.
pub record TurnsOnNewest (ps : List ClientProgram) (r : Release) (turns : List ℕ) (is_line : List ℕ → Type 0) (store_before store_now sink_before sink_now status : ℕ) (old new : Option (List ℕ)) : Type 0 where
  pub turns_told : status ≢ 6 → status ≢ 8 → status ≢ 10 → TellsTurns r ps turns status old new
  pub store_failed : status ≡ 6 → StoreFails is_line store_before store_now old new
  pub sink_failed : status ≡ 8 → Rose sink_before sink_now
  pub front : (status ≡ 8) ⊎ (status ≡ 10) → ShowsFront old new (tasks_text (clients_on r ps) turns (length ps)) ⊎ (Rose store_before store_now × (line : List ℕ) × is_line line × ShowsFront old new line)
  pub metaclasses : (p : ClientProgram) → Mem p ps → MetaclassesDescend (classes r p)
