-- What each step of `tower make` answers and leaves is what the command does.
use Rattle.std.proofs.Common.{◌≡◌, ℕ, ◌≤◌, Bool, List, Option, Result, Ok, Err, subst}
use Rattle.som_model.specs.Bytes.{AreBytes, Files}
use Rattle.som_sources.specs.declared.fault.CompileFault.{CompileFault}
use Rattle.som_sources.specs.Reading.{Says}
use Rattle.som_cmd_steps.specs.declared.stop.CommandStop.{CommandStop}
use Rattle.som_cmd_steps.specs.declared.stop.CommandStop.TheVariants as stops
use Rattle.som_cmd_steps.specs.Cause.{IsQuietStop}
use Rattle.som_cmd_steps.specs.Refusing.{RefusesAs}
use Rattle.som_cmd_steps.specs.Steps.{FollowsTold}
use Rattle.som_cmd_sources.specs.Compiled.{Compiled, Refuses}
use Rattle.som_cmd_sources.specs.PutAnswer.{Compiling}
use Rattle.som_cmd_build.specs.declared.putting.PutEnd.{PutEnd}
use Rattle.som_cmd_build.specs.PutSteps.{EndHasCause, PlacedTold, PutsTold}
use Rattle.som_cmd_build.proofs.CompileLaws.{made_put, not_made, not_there, refused_as, rose_in_put}
use Rattle.som_cmd_tower_make.specs.declared.parts.TowerParts.{TowerParts}
use Rattle.som_cmd_tower_make.specs.Cause.{FailsGettingTower}
use Rattle.som_cmd_tower_make.specs.TowerMakeAnswer.{CompilesTower, has_main}
use Rattle.som_cmd_tower_make.specs.TowerParts.{tower_in}

-- what is wrong with the texts is refused
pub level_refused : (client : Bool) (parts : TowerParts) (fault : CompileFault) (stop : CommandStop) → Says {A = List ℕ} (CompilesTower client parts) (Err fault) → Refuses fault stop → Compiled (CompilesTower client parts) (Err stop)
level_refused client parts fault stop told refuses = refused_as (CompilesTower client parts) fault stop told refuses

module _ (files : Option Files) (out : List ℕ) (below names : List (List ℕ)) where
  abbrev Comes : Compiling TowerParts
  Comes = CompilesTower (has_main names)

  pub parts_refused : (new : Option Files) (stop : CommandStop) → new ≡ files → FollowsTold {A = TowerParts} files (Err stop) (tower_in below names) → PutsTold Comes files out (tower_in below names) (Err stop) new
  parts_refused new stop same f = not_there Comes files new out (tower_in below names) stop same f

  made_as : (client : Bool) (parts : TowerParts) (result : Result (List ℕ) CommandStop) → client ≡ has_main names → Compiled (CompilesTower client parts) result → Compiled (Comes parts) result
  made_as client parts result is made = subst (λ (b : Bool). Compiled (CompilesTower b parts) result) is made

  pub image_refused : (new : Option Files) (parts : TowerParts) (client : Bool) (stop : CommandStop) → new ≡ files → FollowsTold files (Ok parts) (tower_in below names) → client ≡ has_main names → Compiled (CompilesTower client parts) (Err stop)
      → PutsTold Comes files out (tower_in below names) (Err stop) new
  image_refused new parts client stop same f is g = not_made Comes files new out (tower_in below names) parts stop same f (made_as client parts (Err stop) is g)

  pub image_put : (before new : Option Files) (parts : TowerParts) (client : Bool) (image : List ℕ) (result : Result PutEnd CommandStop) → before ≡ files → FollowsTold files (Ok parts) (tower_in below names) → client ≡ has_main names
      → Compiled (CompilesTower client parts) (Ok image) → AreBytes image → RefusesAs (λ r. ⊥) result → PlacedTold before out image result new → PutsTold Comes files out (tower_in below names) result new
  image_put before new parts client image result same f is g bytes none p = made_put Comes files before new out (tower_in below names) parts image result same f (made_as client parts (Ok image) is g) bytes none p

  -- ---- where the store failed

  pub put_fails : (count mid now : ℕ) (result : Result PutEnd CommandStop) → count ≤ mid → EndHasCause (λ line. ⊥) out mid now result → EndHasCause (FailsGettingTower files below names) out count now result
  put_fails count mid now result le cause = rose_in_put (FailsGettingTower files below names) out count mid now result le cause

  -- compiling takes nothing from the store
  pub image_fails : (count now : ℕ) (stop : CommandStop) → IsQuietStop stop → EndHasCause (FailsGettingTower files below names) out count now (Err stop)
  image_fails count now (stops.StoreFailed line) quiet = absurd quiet
  image_fails count now (stops.Refused r) quiet = tt
  image_fails count now stops.NoMemory quiet = tt
