-- Tower images that are read, and whether they stand at their place.
use Rattle.std.proofs.Common.{ℕ, Bool, List, Result, sym, subst}
use Rattle.som_model.specs.Bytes.{AreBytes}
use Rattle.som_image_fields.specs.declared.fault.ImageFault.{ImageFault}
use Rattle.som_image_fields.specs.Fields.{Gives}
use Rattle.som_towerimage.specs.declared.level.Level.{Level}
use Rattle.som_towerimage.specs.Reading.{level_at}
use Rattle.som_cmd_steps.specs.ImageSteps.{read_if}
use Rattle.som_cmd_steps.proofs.ByteLaws.{bytes_pass}
use Rattle.som_cmd_levels.specs.LevelImages.{level_in}

pub level_gives : (bytes : List ℕ) (result : Result Level ImageFault) → AreBytes bytes → Gives result (level_at bytes) → Gives result (level_in bytes)
level_gives bytes result all g = subst (λ (b : Bool). Gives result (read_if b (level_at bytes))) (sym (bytes_pass bytes all)) g
