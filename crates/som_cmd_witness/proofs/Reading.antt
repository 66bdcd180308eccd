-- Two images that are got and read, and whose rules are looked at, step by step.
use Rattle.std.proofs.Common.{◌≡◌, ℕ, List, Option, Some, None, Result, Ok, Err, sym, ap, subst, ◌∙◌}
use Rattle.som_model.specs.declared.program.Release.{Release}
use Rattle.som_model.specs.Bytes.{Files}
use Rattle.som_model.specs.Conforming.{ReleaseOk}
use Rattle.som_model.specs.Steps.{◌>>=◌}
use Rattle.som_libimage.specs.Limits.{IsWithinLimits}
use Rattle.som_cmd_steps.specs.declared.stop.Refusal.{Refusal}
use Rattle.som_cmd_steps.specs.declared.stop.CommandStop.{CommandStop}
use Rattle.som_cmd_steps.specs.Fetching.{file_of}
use Rattle.som_cmd_steps.specs.ImageSteps.{release_in, rules_kept}
use Rattle.som_cmd_steps.specs.Steps.{Stops, Follows, FollowsTold}
use Rattle.som_cmd_steps.proofs.ImageLaws.{stops_first}
use Rattle.som_cmd_witness.specs.declared.releases.Releases.{Releases}
use Rattle.som_cmd_witness.specs.Releases.{AreSound, releases_from, releases_in}

abbrev Read : Type 0
Read = Result Releases Refusal

abbrev pub both : Release → Release → Releases
both o n = record { older = o; newer = n }

-- ---- bytes that are read

module _ (old new : List ℕ) where
  abbrev pub after_old_rules : Release → Release → Read
  after_old_rules o n = rules_kept new n >>= λ kept. Ok (both o n)

  abbrev pub after_reading : Release → Release → Read
  after_reading o n = rules_kept old o >>= λ kept. after_old_rules o n

  abbrev pub after_older : List ℕ → Release → Read
  after_older nb o = release_in new nb >>= after_reading o

module _ (old new ob nb : List ℕ) where
  pub with_older : (o : Release) → release_in old ob ≡ Ok o → after_older old new nb o ≡ releases_from old new ob nb
  with_older o f = ap (λ (x : Result Release Refusal). x >>= after_older old new nb) (sym f)

  pub with_newer : (o n : Release) → release_in old ob ≡ Ok o → release_in new nb ≡ Ok n → after_reading old new o n ≡ releases_from old new ob nb
  with_newer o n f g = ap (λ (x : Result Release Refusal). x >>= after_reading old new o) (sym g) ∙ with_older o f

  pub with_rules : (o n : Release) (x : Unit {0}) → release_in old ob ≡ Ok o → release_in new nb ≡ Ok n → rules_kept old o ≡ Ok x → after_old_rules old new o n ≡ releases_from old new ob nb
  with_rules o n x f g h = ap (λ (y : Result (Unit {0}) Refusal). y >>= λ kept. after_old_rules old new o n) (sym h) ∙ with_newer o n f g

  -- the older one can't be read
  pub older_unread : (stop : CommandStop) → Follows {A = Release} (Err stop) (release_in old ob) → Follows {A = Releases} (Err stop) (releases_from old new ob nb)
  older_unread stop f = stops_first stop (release_in old ob) (after_older old new nb) f

  -- the newer one can't
  pub newer_unread : (o : Release) (stop : CommandStop) → Follows (Ok o) (release_in old ob) → Follows {A = Release} (Err stop) (release_in new nb) → Follows {A = Releases} (Err stop) (releases_from old new ob nb)
  newer_unread o stop f g = subst (Stops stop) (with_older o f) (stops_first stop (release_in new nb) (after_reading old new o) g)

  -- the older one breaks a rule
  pub older_broken : (o n : Release) (stop : CommandStop) → Follows (Ok o) (release_in old ob) → Follows (Ok n) (release_in new nb) → Follows {A = Unit {0}} (Err stop) (rules_kept old o)
      → Follows {A = Releases} (Err stop) (releases_from old new ob nb)
  older_broken o n stop f g h = subst (Stops stop) (with_newer o n f g) (stops_first stop (rules_kept old o) (λ kept. after_old_rules old new o n) h)

  -- the newer one does
  pub newer_broken : (o n : Release) (x : Unit {0}) (stop : CommandStop) → Follows (Ok o) (release_in old ob) → Follows (Ok n) (release_in new nb) → Follows (Ok x) (rules_kept old o)
      → Follows {A = Unit {0}} (Err stop) (rules_kept new n) → Follows {A = Releases} (Err stop) (releases_from old new ob nb)
  newer_broken o n x stop f g h i = subst (Stops stop) (with_rules o n x f g h) (stops_first stop (rules_kept new n) (λ kept. Ok (both o n)) i)

  -- neither does
  pub both_sound : (o n : Release) (x y : Unit {0}) → Follows (Ok o) (release_in old ob) → Follows (Ok n) (release_in new nb) → Follows (Ok x) (rules_kept old o) → Follows (Ok y) (rules_kept new n)
      → Follows (Ok (both o n)) (releases_from old new ob nb)
  both_sound o n x y f g h i = sym (with_rules o n x f g h) ∙ ap (λ (z : Result (Unit {0}) Refusal). z >>= λ kept. Ok (both o n)) i

pub are_sound : (o n : Release) → ReleaseOk o → IsWithinLimits o → ReleaseOk n → IsWithinLimits n → AreSound (both o n)
are_sound o n ok within new_ok new_within = record { older = ok; older_within = within; newer = new_ok; newer_within = new_within }

-- ---- files that are got

module _ (old new : List ℕ) (told : Files) where
  abbrev pub after_new : List ℕ → List ℕ → Read
  after_new ob nb = releases_from old new ob nb

  abbrev pub after_old : List ℕ → Read
  after_old ob = file_of new told >>= after_new ob

  pub with_old : (ob : List ℕ) → file_of old told ≡ Ok ob → after_old ob ≡ releases_in old new told
  with_old ob f = ap (λ (x : Result (List ℕ) Refusal). x >>= after_old) (sym f)

  pub with_new : (ob nb : List ℕ) → file_of old told ≡ Ok ob → file_of new told ≡ Ok nb → releases_from old new ob nb ≡ releases_in old new told
  with_new ob nb f g = ap (λ (x : Result (List ℕ) Refusal). x >>= after_new ob) (sym g) ∙ with_old ob f

there : (told : Files) (now : Option Files) (new nb : List ℕ) → now ≡ Some told → FollowsTold now (Ok nb) (file_of new) → file_of new told ≡ Ok nb
there told now new nb same g = subst (λ (x : Option Files). FollowsTold x (Ok nb) (file_of new)) same g

-- the older image isn't there
pub older_missing : (files : Option Files) (old new : List ℕ) (stop : CommandStop) → FollowsTold {A = List ℕ} files (Err stop) (file_of old) → FollowsTold {A = Releases} files (Err stop) (releases_in old new)
older_missing None old new stop f = tt
older_missing (Some told) old new stop f = stops_first stop (file_of old told) (after_old old new told) f

-- the newer one isn't
pub newer_missing : (files now : Option Files) (old new ob : List ℕ) (stop : CommandStop) → now ≡ files → FollowsTold files (Ok ob) (file_of old) → FollowsTold {A = List ℕ} now (Err stop) (file_of new)
    → FollowsTold {A = Releases} files (Err stop) (releases_in old new)
newer_missing None now old new ob stop same f g = tt
newer_missing (Some told) now old new ob stop same f g =
    subst (Stops stop) (with_old old new told ob f)
    (stops_first stop (file_of new told) (after_new old new told ob) (subst (λ (x : Option Files). FollowsTold {A = List ℕ} x (Err stop) (file_of new)) same g))

-- both are, and the rest goes by their bytes
pub then_read : (files now : Option Files) (old new ob nb : List ℕ) (result : Result Releases CommandStop) → now ≡ files → FollowsTold files (Ok ob) (file_of old) → FollowsTold now (Ok nb) (file_of new)
    → Follows result (releases_from old new ob nb) → FollowsTold files result (releases_in old new)
then_read None now old new ob nb result same f g h = tt
then_read (Some told) now old new ob nb result same f g h = subst (Follows result) (with_new old new told ob nb f (there told now new nb same g)) h
