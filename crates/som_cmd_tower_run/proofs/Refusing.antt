-- What is refused, whatever the store tells.
use Rattle.std.proofs.Common.{◌≡◌, ◌≤◌, ℕ, Bool, true, List, ◌∷◌, length, Option, Some, None, Result, Ok, Err, refl, inl, inr}
use Rattle.som_model.specs.Conforming.{program_breach}
use Rattle.som_model.specs.Rules.{RuleBreach}
use Rattle.som_class_kernel.specs.Linked.{Linkage}
use Rattle.som_towerimage.specs.declared.level.Level.{Level}
use Rattle.som_cmd_steps.specs.declared.stop.Refusal.{Refusal}
use Rattle.som_cmd_steps.specs.declared.stop.CommandStop.{CommandStop}
use Rattle.som_cmd_steps.specs.declared.stop.CommandStop.TheVariants as stops
use Rattle.som_cmd_steps.specs.Getting.{IsAbsentOf}
use Rattle.som_cmd_steps.specs.ImageSteps.{kept_or, program_rules_kept}
use Rattle.som_cmd_steps.specs.Lines.{absent, broken}
use Rattle.som_cmd_steps.specs.Refusing.{RefusesAs}
use Rattle.som_cmd_steps.specs.Steps.{Follows}
use Rattle.som_cmd_levels.specs.declared.levels.LevelsBelow.{LevelsBelow}
use Rattle.som_cmd_levels.specs.LevelImages.{level_read}
use Rattle.som_cmd_levels.specs.Levels.{levels_in, levels_rules_kept}
use Rattle.som_cmd_levels.specs.Refusals.{IsKeptRefusal, IsLevelRefusal, IsLevelsRefusal}
use Rattle.som_cmd_tower_run.specs.declared.tower.Tower.{Tower}
use Rattle.som_cmd_tower_run.specs.Refusals.{IsTowerRefusal}

-- ---- an image isn't there

pub client_absent : (c : List ℕ) (below : List (List ℕ)) (stop : CommandStop) → RefusesAs {A = List ℕ} (λ r. r ≡ absent c) (Err stop) → RefusesAs {A = Linkage} (IsTowerRefusal c below) (Err stop)
client_absent c below (stops.Refused r) is = inl (c, inl refl, inl is)
client_absent c below (stops.StoreFailed line) is = tt
client_absent c below stops.NoMemory is = tt

pub level_absent : (c : List ℕ) (below : List (List ℕ)) (stop : CommandStop) → RefusesAs {A = List (List ℕ)} (IsAbsentOf below) (Err stop) → RefusesAs {A = Linkage} (IsTowerRefusal c below) (Err stop)
level_absent c below (stops.Refused r) is = inl (is.0, inr is.1, inl is.2)
level_absent c below (stops.StoreFailed line) is = tt
level_absent c below stops.NoMemory is = tt

-- ---- it can't be read, or stands at the wrong place

pub client_refused : ((n : ℕ) (client : Bool) (name bytes : List ℕ) (r : Refusal) → level_read n client name bytes ≡ Err r → IsLevelRefusal name r) → (c : List ℕ) (below : List (List ℕ)) (cb : List ℕ) (stop : CommandStop)
    → Follows {A = Level} (Err stop) (level_read (length below) true c cb) → RefusesAs {A = Tower} (IsLevelsRefusal (c ∷ below)) (Err stop)
client_refused law c below cb (stops.Refused r) f = (c, inl refl, law (length below) true c cb r f)
client_refused law c below cb (stops.StoreFailed line) f = tt
client_refused law c below cb stops.NoMemory f = tt

pub level_refused : ((names images : List (List ℕ)) (r : Refusal) → 1 ≤ length names → levels_in names images ≡ Err r → IsLevelsRefusal names r) → (c : List ℕ) (below bs : List (List ℕ)) (stop : CommandStop) → 1 ≤ length below
    → Follows {A = LevelsBelow} (Err stop) (levels_in below bs) → RefusesAs {A = Tower} (IsLevelsRefusal (c ∷ below)) (Err stop)
level_refused law c below bs (stops.Refused r) some f = let is = law below bs r some f in (is.0, inr is.1, is.2)
level_refused law c below bs (stops.StoreFailed line) some f = tt
level_refused law c below bs stops.NoMemory some f = tt

-- ---- it breaks a rule

pub rule_refused : ((names : List (List ℕ)) (ls : LevelsBelow) (r : Refusal) → 1 ≤ length names → levels_rules_kept names ls ≡ Err r → IsLevelsRefusal names r) → (c : List ℕ) (below : List (List ℕ)) (ls : LevelsBelow) (stop : CommandStop) → 1 ≤ length below
    → Follows {A = Unit {0}} (Err stop) (levels_rules_kept below ls) → RefusesAs {A = Tower} (IsLevelsRefusal (c ∷ below)) (Err stop)
rule_refused law c below ls (stops.Refused r) some f = let is = law below ls r some f in (is.0, inr is.1, is.2)
rule_refused law c below ls (stops.StoreFailed line) some f = tt
rule_refused law c below ls stops.NoMemory some f = tt

abbrev Passed : Type 0
Passed = Result (Unit {0}) Refusal

abbrev refused : Refusal → Passed
refused r = Err r

err_is : (q r : Refusal) → refused q ≡ refused r → r ≡ q
err_is q r e = cc

broken_is : (name : List ℕ) (o : Option RuleBreach) (r : Refusal) → kept_or name o ≡ Err r → IsLevelRefusal name r
broken_is name None r e = absurd cc
broken_is name (Some b) r e = inr (inr (b, err_is (broken name b) r e))

pub client_rule_refused : (c : List ℕ) (below : List (List ℕ)) (t : Level) (stop : CommandStop) → Follows {A = Unit {0}} (Err stop) (program_rules_kept c t.program) → RefusesAs {A = Tower} (IsLevelsRefusal (c ∷ below)) (Err stop)
client_rule_refused c below t (stops.Refused r) f = (c, inl refl, broken_is c (program_breach t.program) r f)
client_rule_refused c below t (stops.StoreFailed line) f = tt
client_rule_refused c below t stops.NoMemory f = tt

-- ---- so nothing else is refused

pub checked_refused : (c : List ℕ) (below : List (List ℕ)) (stop : CommandStop) → RefusesAs {A = Tower} (IsLevelsRefusal (c ∷ below)) (Err stop) → RefusesAs {A = Linkage} (IsTowerRefusal c below) (Err stop)
checked_refused c below (stops.Refused r) is = inl is
checked_refused c below (stops.StoreFailed line) is = tt
checked_refused c below stops.NoMemory is = tt

pub laid_refused : (c : List ℕ) (below : List (List ℕ)) (result : Result Linkage CommandStop) → RefusesAs (IsKeptRefusal below) result → RefusesAs (IsTowerRefusal c below) result
laid_refused c below (Ok k) is = tt
laid_refused c below (Err (stops.Refused r)) is = inr is
laid_refused c below (Err (stops.StoreFailed line)) is = tt
laid_refused c below (Err stops.NoMemory) is = tt
