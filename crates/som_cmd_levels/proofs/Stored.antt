-- Levels whose tower images a store holds.
use Rattle.std.proofs.Common.{◌≡◌, ℕ, Bool, List, Ok, ap, ◌∙◌}
use Rattle.som_model.specs.Bytes.{Files}
use Rattle.som_cliimage.specs.Limits.{IsWithinLimits}
use Rattle.som_cliimage.proofs.Decoded.{spelled_within}
use Rattle.som_towerimage.specs.declared.level.Level.{Level}
use Rattle.som_towerimage.specs.Reading.{level_at}
use Rattle.som_towerimage.proofs.Decoded.{image_spells}
use Rattle.som_towerimage.proofs.LevelFields.{level_again}
use Rattle.som_cmd_steps.specs.ImageSteps.{read_if}
use Rattle.som_cmd_steps.proofs.ByteLaws.{bytes_pass}
use Rattle.som_cmd_levels.specs.LevelImages.{level_in}
use Rattle.som_cmd_levels.specs.StoredLevels.{HoldsLevel}

module _ (files : Files) (name : List ℕ) (l : Level) (h : HoldsLevel files name l) where
  -- it is read
  pub stored_read : level_in h.bytes ≡ Ok l
  stored_read = ap (λ (b : Bool). read_if b (level_at h.bytes)) (bytes_pass h.bytes h.bytes_are) ∙ level_again l h.bytes (image_spells l h.bytes h.fits h.spelled)

  -- and an image has room for it
  pub stored_within : IsWithinLimits l.program
  stored_within = let s = image_spells l h.bytes h.fits h.spelled in spelled_within l.program s.image s.program
