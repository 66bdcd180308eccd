-- What `show` and `check` may refuse, and which statuses they may end with, whatever the store tells.
use Rattle.std.proofs.Common.{◌≡◌, ℕ, Bool, true, false, if◌then◌else◌, List, [], ◌∷◌, Option, Some, None, Ok, Err, refl, sym, subst, inl, inr}
use Rattle.som_model.specs.declared.program.Release.{Release}
use Rattle.som_model.specs.Compatible.{CompatBreach}
use Rattle.som_model.specs.Conforming.{program_breach, release_breach}
use Rattle.som_model.specs.Steps.{◌>>=◌}
use Rattle.som_cmd_steps.specs.declared.stop.Refusal.{Refusal}
use Rattle.som_cmd_steps.specs.declared.stop.CommandStop.{CommandStop}
use Rattle.som_cmd_steps.specs.declared.stop.CommandStop.TheVariants as stops
use Rattle.som_cmd_steps.specs.Getting.{IsAbsentOf}
use Rattle.som_cmd_steps.specs.ImageSteps.{client_in, library_in, release_in, rules_kept, sound_program, sound_release}
use Rattle.som_cmd_steps.specs.Lines.{absent}
use Rattle.som_cmd_steps.specs.Refusing.{EndsIn, HasStatusIn, RefusesAs}
use Rattle.som_cmd_steps.specs.Steps.{Follows}
use Rattle.som_cmd_steps.proofs.Statuses.{Only, absent_in, kept_only, read_only, sound_only, stops_only, then_only}
use Rattle.som_cmd_check.specs.CheckAnswer.{all_rules_kept, check_statuses, first_not_kept, releases_in}
use Rattle.som_cmd_check.specs.CheckSteps.{accepted_or, line_checked}
use Rattle.som_cmd_check.specs.ShowAnswer.{is_client, show_statuses}
use Rattle.som_cmd_check.specs.ShowSteps.{lines_shown, program_lines, release_lines}
use Rattle.som_cmd_check.proofs.CheckLaws.{ruled}
use Rattle.som_cmd_check.proofs.ShowLaws.{program_shown, release_shown}

-- ---- `show`

abbrev IsShowRefusal : Refusal → Type 0
IsShowRefusal r = HasStatusIn show_statuses r

by_kind_only : (name bytes : List ℕ) (c : Bool) → Only IsShowRefusal (if c then program_lines name bytes else release_lines name bytes)
by_kind_only name bytes true =
    then_only IsShowRefusal (sound_program name bytes) program_shown (sound_only show_statuses (inr (inl refl)) program_breach name (client_in bytes)) (λ p. tt)
by_kind_only name bytes false =
    then_only IsShowRefusal (sound_release name bytes) release_shown (sound_only show_statuses (inr (inl refl)) release_breach name (library_in bytes)) (λ r. tt)

-- the image isn't there
pub image_absent_in : (name : List ℕ) (stop : CommandStop) → RefusesAs {A = List ℕ} (λ r. r ≡ absent name) (Err stop) → EndsIn show_statuses (Err stop)
image_absent_in name stop is = absent_in show_statuses (inr (inr (inl refl))) name stop is

-- it isn't shown
pub shown_in : (name bytes : List ℕ) (stop : CommandStop) → Follows {A = List (List ℕ)} (Err stop) (lines_shown name bytes) → EndsIn show_statuses (Err stop)
shown_in name bytes stop f = stops_only IsShowRefusal (lines_shown name bytes) (by_kind_only name bytes (is_client bytes)) stop f

-- ---- `check`

abbrev IsCheckRefusal : Refusal → Type 0
IsCheckRefusal r = HasStatusIn check_statuses r

releases_only : (names images : List (List ℕ)) → Only IsCheckRefusal (releases_in names images)
releases_only [] images = tt
releases_only (n ∷ ns) [] = tt
releases_only (n ∷ ns) (b ∷ bs) =
    let more = releases_only ns bs in
    then_only IsCheckRefusal (release_in n b) (λ (r : Release). releases_in ns bs >>= λ rs. Ok (r ∷ rs)) (read_only check_statuses (inr (inr (inl refl))) n (library_in b))
    (λ r. then_only IsCheckRefusal (releases_in ns bs) (λ (rs : List Release). Ok (r ∷ rs)) more (λ rs. tt))

rules_only : (names : List (List ℕ)) (rs : List Release) → Only IsCheckRefusal (all_rules_kept names rs)
rules_only [] rs = tt
rules_only (n ∷ ns) [] = tt
rules_only (n ∷ ns) (r ∷ rs) =
    let more = rules_only ns rs in
    then_only IsCheckRefusal (rules_kept n r) (λ (kept : Unit {0}). all_rules_kept ns rs) (kept_only check_statuses (inr (inr (inl refl))) n (release_breach r)) (λ kept. more)

accepted_only : (names : List (List ℕ)) (o : Option (ℕ × CompatBreach)) → Only IsCheckRefusal (accepted_or names o)
accepted_only names None = tt
accepted_only names (Some told) = inr (inl refl)

checked_only : (names images : List (List ℕ)) → Only IsCheckRefusal (line_checked names images)
checked_only names images =
    then_only IsCheckRefusal (releases_in names images) (ruled names) (releases_only names images)
    (λ rs. then_only IsCheckRefusal (all_rules_kept names rs) (λ kept. accepted_or names (first_not_kept rs)) (rules_only names rs) (λ kept. accepted_only names (first_not_kept rs)))

-- an image isn't there
pub absent_among : (names : List (List ℕ)) (stop : CommandStop) → RefusesAs {A = List (List ℕ)} (IsAbsentOf names) (Err stop) → EndsIn check_statuses (Err stop)
absent_among names (stops.Refused r) is = subst (HasStatusIn check_statuses) (sym is.2) (inr (inr (inr (inl refl))))
absent_among names (stops.StoreFailed line) is = tt
absent_among names stops.NoMemory is = tt

-- they aren't accepted
pub checked_in : (names images : List (List ℕ)) (stop : CommandStop) → Follows {A = List ℕ} (Err stop) (line_checked names images) → EndsIn check_statuses (Err stop)
checked_in names images stop f = stops_only IsCheckRefusal (line_checked names images) (checked_only names images) stop f
