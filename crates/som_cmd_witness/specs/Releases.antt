-- The releases of two images, an older and a newer one, step by step; the first step that refuses, refuses for all.
use Rattle.std.specs.Prelude.{ℕ, List, Result, Ok}
use Rattle.som_model.specs.Bytes.{Files}
use Rattle.som_model.specs.Conforming.{ReleaseOk}
use Rattle.som_model.specs.Steps.{◌>>=◌}
use Rattle.som_libimage.specs.Limits.{IsWithinLimits}
use Rattle.som_cmd_steps.specs.declared.stop.Refusal.{Refusal}
use Rattle.som_cmd_steps.specs.Fetching.{file_of}
use Rattle.som_cmd_steps.specs.ImageSteps.{release_in, rules_kept}
use Rattle.som_cmd_witness.specs.declared.releases.Releases.{Releases}

-- of the bytes under both names: both are read, and then the rules of both are looked at, each time the older one's first
abbrev pub releases_from : List ℕ → List ℕ → List ℕ → List ℕ → Result Releases Refusal
releases_from old new old_bytes new_bytes = do
  o ← release_in old old_bytes
  n ← release_in new new_bytes
  old_kept ← rules_kept old o
  new_kept ← rules_kept new n
  Ok (record { older = o; newer = n })

-- before that the bytes under both names are got, the older one's first
abbrev pub releases_in : List ℕ → List ℕ → Files → Result Releases Refusal
releases_in old new files = do
  old_bytes ← file_of old files
  new_bytes ← file_of new files
  releases_from old new old_bytes new_bytes

-- both break no rule, and an image has room for each
pub record AreSound (rs : Releases) : Type 0 where
  pub older : ReleaseOk rs.older
  pub older_within : IsWithinLimits rs.older
  pub newer : ReleaseOk rs.newer
  pub newer_within : IsWithinLimits rs.newer
