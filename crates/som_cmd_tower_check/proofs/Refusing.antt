-- With which statuses `tower check` refuses.
use Rattle.std.proofs.Common.{◌≡◌, ℕ, false, List, length, Option, Some, None, Result, Ok, Err, refl, inl, inr}
use Rattle.som_model.specs.Compatible.{CompatBreach}
use Rattle.som_model.specs.Conforming.{program_breach}
use Rattle.som_model.specs.Lists.{Mem}
use Rattle.som_model.specs.Steps.{◌>>=◌}
use Rattle.som_towerimage.specs.declared.level.Level.{Level}
use Rattle.som_cmd_steps.specs.declared.stop.Refusal.{Refusal}
use Rattle.som_cmd_steps.specs.declared.stop.CommandStop.{CommandStop}
use Rattle.som_cmd_steps.specs.ImageSteps.{program_rules_kept}
use Rattle.som_cmd_steps.specs.Lines.{absent}
use Rattle.som_cmd_steps.specs.Refusing.{HasStatusIn, RefusesAs}
use Rattle.som_cmd_steps.specs.Steps.{Follows}
use Rattle.som_cmd_steps.proofs.Statuses.{Only, absent_in, kept_only, read_only, stops_only, then_only}
use Rattle.som_cmd_levels.specs.LevelImages.{level_read, placed_in, upper_in, upper_read}
use Rattle.som_cmd_tower_check.specs.TowerCheckAnswer.{accepted_or, first_lost, line_checked, line_compared, tower_check_statuses}

abbrev IsOne : Refusal → Type 0
IsOne r = HasStatusIn tower_check_statuses r

five : Mem 5 tower_check_statuses
five = inr (inr (inl refl))

accepted_only : (new : List ℕ) (o : Option (ℕ × CompatBreach)) → Only IsOne (accepted_or new o)
accepted_only new None = tt
accepted_only new (Some found) = inr (inl refl)

compared_only : (old new : List ℕ) (o n : Level) → Only IsOne (line_compared old new o n)
compared_only old new o n =
    then_only IsOne (program_rules_kept old o.program) (λ (u : Unit {0}). program_rules_kept new n.program >>= λ kept. accepted_or new (first_lost o n)) (kept_only tower_check_statuses five old (program_breach o.program))
    (λ u. then_only IsOne (program_rules_kept new n.program) (λ (v : Unit {0}). accepted_or new (first_lost o n)) (kept_only tower_check_statuses five new (program_breach n.program)) (λ v. accepted_only new (first_lost o n)))

checked_only : (old new ob nb : List ℕ) → Only IsOne (line_checked old new ob nb)
checked_only old new ob nb =
    then_only IsOne (upper_read old ob) (λ (o : Level). level_read (length o.sizes) false new nb >>= line_compared old new o) (read_only tower_check_statuses five old (upper_in ob))
    (λ o. then_only IsOne (level_read (length o.sizes) false new nb) (line_compared old new o) (read_only tower_check_statuses five new (placed_in (length o.sizes) false nb)) (compared_only old new o))

-- an image isn't there
pub absent_status : (name : List ℕ) (stop : CommandStop) → RefusesAs {A = List ℕ} (λ r. r ≡ absent name) (Err stop) → RefusesAs {A = List ℕ} (HasStatusIn tower_check_statuses) (Err stop)
absent_status name stop is = absent_in tower_check_statuses (inr (inr (inr (inl refl)))) name stop is

-- or the newer library isn't accepted
pub checked_status : (old new ob nb : List ℕ) (result : Result (List ℕ) CommandStop) → Follows result (line_checked old new ob nb) → RefusesAs (HasStatusIn tower_check_statuses) result
checked_status old new ob nb (Ok line) f = tt
checked_status old new ob nb (Err stop) f = stops_only IsOne (line_checked old new ob nb) (checked_only old new ob nb) stop f
