-- What may be refused, and with which statuses, whatever the store tells.
use Rattle.std.proofs.Common.{◌≡◌, ℕ, List, Result, Ok, Err, refl, inl, inr}
use Rattle.som_model.specs.declared.program.Release.{Release}
use Rattle.som_model.specs.Conforming.{release_breach}
use Rattle.som_cmd_steps.specs.declared.stop.Refusal.{Refusal}
use Rattle.som_cmd_steps.specs.declared.stop.CommandStop.{CommandStop}
use Rattle.som_cmd_steps.specs.ImageSteps.{library_in, release_in, rules_kept}
use Rattle.som_cmd_steps.specs.Lines.{absent}
use Rattle.som_cmd_steps.specs.Refusing.{HasStatusIn, RefusesAs}
use Rattle.som_cmd_steps.specs.Steps.{Follows}
use Rattle.som_cmd_steps.proofs.Statuses.{Only, absent_in, kept_only, read_only, stops_only, then_only}
use Rattle.som_cmd_witness.specs.declared.releases.Releases.{Releases}
use Rattle.som_cmd_witness.specs.Releases.{releases_from}
use Rattle.som_cmd_witness.specs.WitnessAnswer.{witness_statuses}
use Rattle.som_cmd_witness.proofs.Reading.{after_old_rules, after_older, after_reading, both}

abbrev IsRefusal : Refusal → Type 0
IsRefusal r = HasStatusIn witness_statuses r

-- the image isn't there
pub absent_in_one : (name : List ℕ) (stop : CommandStop) → RefusesAs {A = List ℕ} (λ r. r ≡ absent name) (Err stop) → RefusesAs {A = Releases} (HasStatusIn witness_statuses) (Err stop)
absent_in_one name stop is = absent_in witness_statuses (inr (inr (inl refl))) name stop is

module _ (old new ob nb : List ℕ) where
  new_rules_only : (o n : Release) → Only IsRefusal (after_old_rules old new o n)
  new_rules_only o n = then_only IsRefusal (rules_kept new n) (λ kept. Ok (both o n)) (kept_only witness_statuses (inr (inl refl)) new (release_breach n)) (λ kept. tt)

  rules_only : (o n : Release) → Only IsRefusal (after_reading old new o n)
  rules_only o n = then_only IsRefusal (rules_kept old o) (λ kept. after_old_rules old new o n) (kept_only witness_statuses (inr (inl refl)) old (release_breach o)) (λ kept. new_rules_only o n)

  newer_only : (o : Release) → Only IsRefusal (after_older old new nb o)
  newer_only o = then_only IsRefusal (release_in new nb) (after_reading old new o) (read_only witness_statuses (inr (inl refl)) new (library_in nb)) (rules_only o)

  from_only : Only IsRefusal (releases_from old new ob nb)
  from_only = then_only IsRefusal (release_in old ob) (after_older old new nb) (read_only witness_statuses (inr (inl refl)) old (library_in ob)) newer_only

  -- an image can't be read, or breaks a rule
  pub read_in : (result : Result Releases CommandStop) → Follows result (releases_from old new ob nb) → RefusesAs (HasStatusIn witness_statuses) result
  read_in (Ok rs) f = tt
  read_in (Err stop) f = stops_only IsRefusal (releases_from old new ob nb) from_only stop f
