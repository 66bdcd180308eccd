-- Two tower images that are read, and the libraries in them compared, step by step.
use Rattle.std.proofs.Common.{◌≡◌, ℕ, false, List, length, Result, Ok, Err, sym, ap, subst, ◌∙◌}
use Rattle.som_model.specs.Steps.{◌>>=◌}
use Rattle.som_towerimage.specs.declared.level.Level.{Level}
use Rattle.som_cmd_steps.specs.declared.stop.Refusal.{Refusal}
use Rattle.som_cmd_steps.specs.declared.stop.CommandStop.{CommandStop}
use Rattle.som_cmd_steps.specs.ImageSteps.{program_rules_kept}
use Rattle.som_cmd_steps.specs.Steps.{Follows, Stops}
use Rattle.som_cmd_steps.proofs.ImageLaws.{stops_first}
use Rattle.som_cmd_levels.specs.LevelImages.{level_read, upper_read}
use Rattle.som_cmd_tower_check.specs.TowerCheckAnswer.{accepted_or, first_lost, line_checked, line_compared}

abbrev Line : Type 0
Line = Result (List ℕ) Refusal

-- ---- rules, and what is lost

module _ (old new : List ℕ) (o n : Level) where
  abbrev compared : Line
  compared = accepted_or new (first_lost o n)

  abbrev new_ruled : Line
  new_ruled = program_rules_kept new n.program >>= λ kept. compared

  pub with_old : (u : Unit {0}) → program_rules_kept old o.program ≡ Ok u → new_ruled ≡ line_compared old new o n
  with_old u f = ap (λ (x : Result (Unit {0}) Refusal). x >>= λ kept. new_ruled) (sym f)

  pub with_new : (u v : Unit {0}) → program_rules_kept old o.program ≡ Ok u → program_rules_kept new n.program ≡ Ok v → compared ≡ line_compared old new o n
  with_new u v f g = ap (λ (x : Result (Unit {0}) Refusal). x >>= λ kept. compared) (sym g) ∙ with_old u f

  -- the older one breaks a rule
  pub old_broken : (stop : CommandStop) → Follows {A = Unit {0}} (Err stop) (program_rules_kept old o.program) → Follows {A = List ℕ} (Err stop) (line_compared old new o n)
  old_broken stop f = stops_first stop (program_rules_kept old o.program) (λ kept. new_ruled) f

  -- the newer one does
  pub new_broken : (u : Unit {0}) (stop : CommandStop) → Follows (Ok u) (program_rules_kept old o.program) → Follows {A = Unit {0}} (Err stop) (program_rules_kept new n.program) → Follows {A = List ℕ} (Err stop) (line_compared old new o n)
  new_broken u stop f g = subst (Stops stop) (with_old u f) (stops_first stop (program_rules_kept new n.program) (λ kept. compared) g)

  -- none does
  pub then_compared : (u v : Unit {0}) (result : Result (List ℕ) CommandStop) → Follows (Ok u) (program_rules_kept old o.program) → Follows (Ok v) (program_rules_kept new n.program) → Follows result compared → Follows result (line_compared old new o n)
  then_compared u v result f g h = subst (Follows result) (with_new u v f g) h

-- ---- images

module _ (old new ob nb : List ℕ) where
  abbrev new_read : Level → Line
  new_read o = level_read (length o.sizes) false new nb >>= line_compared old new o

  pub with_older : (o : Level) → upper_read old ob ≡ Ok o → new_read o ≡ line_checked old new ob nb
  with_older o f = ap (λ (x : Result Level Refusal). x >>= new_read) (sym f)

  pub with_both : (o n : Level) → upper_read old ob ≡ Ok o → level_read (length o.sizes) false new nb ≡ Ok n → line_compared old new o n ≡ line_checked old new ob nb
  with_both o n f g = ap (λ (x : Result Level Refusal). x >>= line_compared old new o) (sym g) ∙ with_older o f

  -- the older one can't be read
  pub old_unread : (stop : CommandStop) → Follows {A = Level} (Err stop) (upper_read old ob) → Follows {A = List ℕ} (Err stop) (line_checked old new ob nb)
  old_unread stop f = stops_first stop (upper_read old ob) new_read f

  -- the newer one can't, or it has no place beside the older one
  pub new_unread : (o : Level) (below : ℕ) (stop : CommandStop) → Follows (Ok o) (upper_read old ob) → below ≡ length o.sizes → Follows {A = Level} (Err stop) (level_read below false new nb) → Follows {A = List ℕ} (Err stop) (line_checked old new ob nb)
  new_unread o below stop f same g =
      subst (Stops stop) (with_older o f) (stops_first stop (level_read (length o.sizes) false new nb) (line_compared old new o) (subst (λ (k : ℕ). Stops stop (level_read k false new nb)) same g))

  -- both are
  pub both_read : (o n : Level) (below : ℕ) (result : Result (List ℕ) CommandStop) → Follows (Ok o) (upper_read old ob) → below ≡ length o.sizes → Follows (Ok n) (level_read below false new nb) → Follows result (line_compared old new o n)
      → Follows result (line_checked old new ob nb)
  both_read o n below result f same g h = subst (Follows result) (with_both o n f (subst (λ (k : ℕ). level_read k false new nb ≡ Ok n) same g)) h
