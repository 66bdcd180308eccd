-- Towers as they were read, before any rule was looked at.
use Rattle.std.specs.Prelude.{◌≡◌, ◌+◌, ℕ, Bool, false, true, List, length, slice_get, Some}
use Rattle.std.specs.List.{All}
use Rattle.som_model.specs.Conforming.{ProgramOk}
use Rattle.som_link_check.specs.Pairs.{ProgramCounted, ReleaseCounted}
use Rattle.som_towerimage.specs.declared.level.Level.{Level}
use Rattle.som_towerimage.specs.Spelling.{FitsTower}
use Rattle.som_test_towers.specs.declared.tower.Tower.{Tower}

-- an image has room for a level, and it fits a tower: above so many levels, and a client or a library
pub record IsRead (below : ℕ) (client : Bool) (l : Level) : Type 0 where
  pub counted : ProgramCounted l.program
  pub fits : FitsTower l
  pub levels : length l.sizes ≡ below
  pub kind : l.client ≡ client

-- libraries, the first above one level, and each next one above one more
abbrev pub AreRead : List Level → Type 0
AreRead levels = (i : ℕ) (l : Level) → slice_get levels i ≡ Some l → IsRead (i + 1) false l

-- images have room for the lowest library and those above it, and the client stands above all
pub record IsReadTower (t : Tower) : Type 0 where
  pub base : ReleaseCounted t.base
  pub uppers : AreRead t.uppers
  pub client : IsRead (length t.uppers + 1) true t.client

-- the program of each level keeps the rules
abbrev pub AllConform : List Level → Type 0
AllConform levels = All (λ (l : Level). ProgramOk l.program) levels
