-- Two images that are got from a store, and where the store failed.
use Rattle.std.proofs.Common.{◌≡◌, ◌≤◌, ℕ, List, [], ◌∷◌, Option, Some, None, Result, Ok, Err, inl, inr, sym, ap, subst, ◌∙◌}
use Rattle.som_model.specs.Bytes.{Files}
use Rattle.som_model.specs.Steps.{◌>>=◌}
use Rattle.som_io.proofs.ShownLaws.{rose_earlier}
use Rattle.som_cmd_steps.specs.declared.stop.Refusal.{Refusal}
use Rattle.som_cmd_steps.specs.declared.stop.CommandStop.{CommandStop}
use Rattle.som_cmd_steps.specs.declared.stop.CommandStop.TheVariants as stops
use Rattle.som_cmd_steps.specs.Cause.{HasCause, IsQuiet}
use Rattle.som_cmd_steps.specs.Fetching.{file_of}
use Rattle.som_cmd_steps.specs.Getting.{FailsGetting}
use Rattle.som_cmd_steps.specs.Lines.{store_failed}
use Rattle.som_cmd_steps.specs.Steps.{Follows, FollowsTold, Stops}
use Rattle.som_cmd_steps.proofs.FileLaws.{has_bytes}
use Rattle.som_cmd_steps.proofs.ImageLaws.{stops_first}
use Rattle.som_cmd_tower_check.specs.TowerCheckAnswer.{line_checked, line_told}

-- ---- the bytes

module _ (old new : List ℕ) (told : Files) where
  abbrev after_old : List ℕ → Result (List ℕ) Refusal
  after_old ob = file_of new told >>= line_checked old new ob

  with_old : (ob : List ℕ) → file_of old told ≡ Ok ob → after_old ob ≡ line_told old new told
  with_old ob f = ap (λ (x : Result (List ℕ) Refusal). x >>= after_old) (sym f)

  pub with_both : (ob nb : List ℕ) → file_of old told ≡ Ok ob → file_of new told ≡ Ok nb → line_checked old new ob nb ≡ line_told old new told
  with_both ob nb f g = ap (λ (x : Result (List ℕ) Refusal). x >>= line_checked old new ob) (sym g) ∙ with_old ob f

  no_new : (ob : List ℕ) (stop : CommandStop) → file_of old told ≡ Ok ob → Stops stop (file_of new told) → Stops stop (line_told old new told)
  no_new ob stop f g = subst (Stops stop) (with_old ob f) (stops_first stop (file_of new told) (line_checked old new ob) g)

-- the older image isn't there
pub old_missing : (files : Option Files) (old new : List ℕ) (stop : CommandStop) → FollowsTold {A = List ℕ} files (Err stop) (file_of old) → FollowsTold {A = List ℕ} files (Err stop) (line_told old new)
old_missing None old new stop f = tt
old_missing (Some told) old new stop f = stops_first stop (file_of old told) (after_old old new told) f

-- the newer one isn't
pub new_missing : (files now : Option Files) (old new ob : List ℕ) (stop : CommandStop) → now ≡ files → FollowsTold files (Ok ob) (file_of old) → FollowsTold {A = List ℕ} now (Err stop) (file_of new) → FollowsTold {A = List ℕ} files (Err stop) (line_told old new)
new_missing None now old new ob stop same f g = tt
new_missing (Some told) now old new ob stop same f g = no_new old new told ob stop f (subst (λ (x : Option Files). FollowsTold {A = List ℕ} x (Err stop) (file_of new)) same g)

-- both are there
pub then_checked : (files now : Option Files) (old new ob nb : List ℕ) (result : Result (List ℕ) CommandStop) → now ≡ files → FollowsTold files (Ok ob) (file_of old) → FollowsTold now (Ok nb) (file_of new) → Follows result (line_checked old new ob nb)
    → FollowsTold files result (line_told old new)
then_checked None now old new ob nb result same f g h = tt
then_checked (Some told) now old new ob nb result same f g h = subst (Follows result) (with_both old new told ob nb f (subst (λ (x : Option Files). FollowsTold x (Ok nb) (file_of new)) same g)) h

-- ---- where the store failed

pub old_fails : (files : Option Files) (old new : List ℕ) (count now : ℕ) (stop : CommandStop) → HasCause {A = List ℕ} (λ line. line ≡ store_failed old) count now (Err stop) → HasCause {A = List ℕ} (FailsGetting files (old ∷ new ∷ [])) count now (Err stop)
old_fails files old new count now (stops.StoreFailed line) cause = (cause.0, inl cause.1)
old_fails files old new count now (stops.Refused r) cause = tt
old_fails files old new count now stops.NoMemory cause = tt

pub new_fails : (files : Option Files) (old new ob : List ℕ) (count mid now : ℕ) (stop : CommandStop) → count ≤ mid → FollowsTold files (Ok ob) (file_of old) → HasCause {A = List ℕ} (λ line. line ≡ store_failed new) mid now (Err stop)
    → HasCause {A = List ℕ} (FailsGetting files (old ∷ new ∷ [])) count now (Err stop)
new_fails files old new ob count mid now (stops.StoreFailed line) le f cause = (rose_earlier count mid now le cause.0, inr (has_bytes files old ob f, inl cause.1))
new_fails files old new ob count mid now (stops.Refused r) le f cause = tt
new_fails files old new ob count mid now stops.NoMemory le f cause = tt

-- checking takes nothing from the store
pub checking_fails : (files : Option Files) (old new : List ℕ) (count now : ℕ) (result : Result (List ℕ) CommandStop) → IsQuiet result → HasCause (FailsGetting files (old ∷ new ∷ [])) count now result
checking_fails files old new count now (Ok line) quiet = tt
checking_fails files old new count now (Err (stops.StoreFailed line)) quiet = absurd quiet
checking_fails files old new count now (Err (stops.Refused r)) quiet = tt
checking_fails files old new count now (Err stops.NoMemory) quiet = tt
