-- What a call comes to that asks for something of towers.
use Rattle.std.proofs.Common.{◌≡◌, ◌≢◌, ◌⊎◌, ℕ, List, [], ◌∷◌, Option, Some, None, subst}
use Rattle.som_model.specs.declared.program.Release.{Release}
use Rattle.som_model.specs.Bytes.{Files}
use Rattle.som_model.specs.Class.{interface_of}
use Rattle.som_model.specs.Compatible.{CompatBreach}
use Rattle.som_io.specs.Outside.{Rose}
use Rattle.som_sources.specs.declared.source.Source.{Source}
use Rattle.som_towerimage.specs.declared.level.Level.{Level}
use Rattle.som_tower.specs.Towers.{programs_above, tower_break}
use Rattle.som_cmd_steps.proofs.OutcomeLaws.{ends_with, some_with}
use Rattle.som_cmd_steps.specs.Endings.{Ending}
use Rattle.som_cmd_steps.specs.Outcomes as steps
use Rattle.som_cmd_tower_check.specs.TowerCheckAnswer.{first_lost}
use Rattle.som_cmd_tower_check.specs.TowerCheckEnds.{TellsLevelAccepted, TellsLevelBreach}
use Rattle.som_cmd_tower_check.proofs.CheckEndLaws.{level_accepted_by, level_breach_by}
use Rattle.som_cmd_tower_make.proofs.TowerEndLaws.{puts_level_by}
use Rattle.som_cmd_tower_run.specs.TowerNewest.{RunsOnNewestTower}
use Rattle.som_cmd_tower_run.specs.TowerRunEnds.{RunsTowerAs, TellsLevelNotKept}
use Rattle.som_cmd_tower_run.proofs.TowerNewestLaws.{runs_newest}
use Rattle.som_cmd_tower_run.proofs.TowerRunEndLaws.{means_by, unkept_by}
use Rattle.som_cmd_towers.specs.Answer.{IsTowerAnswer}
use Rattle.som_cmd_towers.specs.Asked.{TowerAsked, CanBeBelow, CanBeMade, Make, Compare, RunOn}
use Rattle.som_cmd_towers.specs.Ends.{KeepsTowerFiles}
use Rattle.som_cmd.specs.Words.{Asked, Tower}
use Rattle.som_cmd.specs.Answer.{IsAnswer, answers_tower}
use Rattle.som_cmd.specs.Cause.{FailsOn}
use Rattle.som_cmd.specs.Ends.{EndsAsTold, ShowsSome, StoreFails}
use Rattle.som_cmd.specs.PutEnds.{KeepsFiles}
use Rattle.som_cmd.specs.Towers.{AreLevelTextsOf, AreLevelsCompared, AreTowerImagesOf, IsNewestTower, PutsLevel}
use Rattle.som_cmd.proofs.EndLaws.{ends_by}
use Rattle.som_cmd.proofs.WordLaws.{IsAnswerable}

-- the answer to what is asked of towers is that of the command
tower_alone : (files : Files) (what : TowerAsked) (e : Ending) → IsAnswer files (Tower what) e → IsTowerAnswer what files e
tower_alone files what e (answers_tower _ _ a) = a

-- what is asked has its form
formed_by : (asked : Asked) (what : TowerAsked) → asked ≡ Tower what → IsAnswerable asked → IsAnswerable (Tower what)
formed_by asked what is formed = subst IsAnswerable is formed

module _ (asked : Asked) (files : Option Files) (status : ℕ) (new_files : Option Files) (old new : Option (List ℕ)) where
  module _ (e : EndsAsTold asked files status new_files old new) where
    -- the end of the call is that of the command that it asks for
    tower_by : (told : Files) (what : TowerAsked) → asked ≡ Tower what → files ≡ Some told → steps.EndsAs (λ x. IsTowerAnswer what told x) status new_files old new
    tower_by told what is same =
        ends_with (λ x. IsAnswer told (Tower what) x) (λ x. IsTowerAnswer what told x) (tower_alone told what) status new_files old new
        (ends_by asked (Tower what) files told is same status new_files old new e)

    -- as the client means
    pub tower_means : (below : List (List ℕ)) (base : Release) (uppers : List Level) (c : Level) (fuel : ℕ) → AreTowerImagesOf asked files below base uppers c fuel
        → tower_break (interface_of base ∷ []) (programs_above uppers c) ≡ None → RunsTowerAs base uppers c fuel status old new
    tower_means below base uppers c fuel m none =
        means_by m.told m.client below base uppers c m.images fuel status new_files old new (tower_by m.told (RunOn m.client below fuel) m.asked_is m.files_are) none

    -- or that tells what a level doesn't keep
    pub tower_unkept : (below : List (List ℕ)) (base : Release) (uppers : List Level) (c : Level) (fuel level : ℕ) (b : CompatBreach) → AreTowerImagesOf asked files below base uppers c fuel
        → tower_break (interface_of base ∷ []) (programs_above uppers c) ≡ Some (level, b) → TellsLevelNotKept below level b status old new
    tower_unkept below base uppers c fuel level b m is =
        unkept_by m.told m.client below base uppers c m.images fuel status new_files old new (tower_by m.told (RunOn m.client below fuel) m.asked_is m.files_are) level b is

    -- that accepts a newer library exactly where it keeps all
    pub level_accepted : (name : List ℕ) (o n : Level) → AreLevelsCompared asked files name o n → TellsLevelAccepted o n status old new
    level_accepted name o n m =
        level_accepted_by m.older name m.told status new_files old new (tower_by m.told (Compare m.older name) m.asked_is m.files_are) o n m.under

    -- or tells what it doesn't keep
    pub level_breach : (name : List ℕ) (o n : Level) (found : ℕ × CompatBreach) → AreLevelsCompared asked files name o n → first_lost o n ≡ Some found → TellsLevelBreach name found.1 status old new
    level_breach name o n found m lost =
        level_breach_by m.older name m.told status new_files old new (tower_by m.told (Compare m.older name) m.asked_is m.files_are) o n m.under found lost

    -- what stands then under the name
    pub level_compiled : (count now : ℕ) → KeepsFiles asked files count now status new_files old new → IsAnswerable asked → (out : List ℕ) (l : Level) → AreLevelTextsOf asked files out l
        → PutsLevel files out l status new_files old new
    level_compiled count now k formed out l m =
        let what : TowerAsked = Make out (m.first ∷ m.others) m.names in
        let form : CanBeMade (m.first ∷ m.others) m.names = formed_by asked what m.asked_is formed in
        let kept : KeepsTowerFiles what (Some m.told) count now status new_files old new =
        subst (λ (x : Option Files). KeepsFiles (Tower what) x count now status new_files old new) m.files_are (subst (λ (x : Asked). KeepsFiles x files count now status new_files old new) m.asked_is k) in
        record {
          told = m.told;
          files_are = m.files_are;
          puts = puts_level_by m.told m.first m.others m.names l m.texts form.few out status new_files old new (tower_by m.told what m.asked_is m.files_are) count now kept;
        }

  -- a call comes to what the client means on the newest of all levels, unless the store or the sink failed or memory ran out
  pub newest_tower : IsAnswerable asked → (earlier : List Release) (base : Release) (lists : List (List Level)) (newest : List Level) (texts : List Source) (c : Level) (fuel : ℕ) → IsNewestTower asked files earlier base lists newest texts c fuel
      → (count now sink_before sink_now : ℕ) → (status ≢ 6 → status ≢ 8 → status ≢ 10 → EndsAsTold asked files status new_files old new)
      → (status ≡ 6 → StoreFails asked files count now old new) → (status ≡ 8 → Rose sink_before sink_now) → ((status ≡ 8) ⊎ (status ≡ 10) → ShowsSome asked files count now old new)
      → RunsOnNewestTower base newest c fuel (FailsOn files asked) count now sink_before sink_now status old new
  newest_tower formed earlier base lists newest texts c fuel m count now sink_before sink_now ends fails sink front =
      let what : TowerAsked = RunOn m.client m.below fuel in
      let form : CanBeBelow m.below = formed_by asked what m.asked_is formed in
      runs_newest m.told m.client m.below earlier base lists newest texts c m.images form.few fuel (FailsOn files asked) count now sink_before sink_now status new_files old new
      (λ not6 not8 not10. tower_by (ends not6 not8 not10) m.told what m.asked_is m.files_are) fails sink
      (λ cut. fronts m.told what m.asked_is m.files_are (front cut))
    where
      fronts : (told : Files) (what : TowerAsked) → asked ≡ Tower what → files ≡ Some told → ShowsSome asked files count now old new
          → steps.ShowsSome (IsTowerAnswer what) (FailsOn files asked) (Some told) count now old new
      fronts told what is same s =
          let over : steps.ShowsSome (λ before. IsAnswer before asked) (FailsOn files asked) (Some told) count now old new =
          subst (λ (x : Option Files). steps.ShowsSome (λ before. IsAnswer before asked) (FailsOn files asked) x count now old new) same s in
          let by : steps.ShowsSome (λ before. IsAnswer before (Tower what)) (FailsOn files asked) (Some told) count now old new =
          subst (λ (x : Asked). steps.ShowsSome (λ before. IsAnswer before x) (FailsOn files asked) (Some told) count now old new) is over in
          some_with (λ before. IsAnswer before (Tower what)) (IsTowerAnswer what) (FailsOn files asked) (λ before x. tower_alone before what x) (Some told) count now old new by
