-- What may be compiled against: the flat interface of libraries, and how many classes each of them has.
use Rattle.std.specs.Prelude.{◌≡◌, ℕ, length, sum}
use Rattle.som_compile.specs.Compiling.{IsBase}
use Rattle.som_cmd_tower_make.specs.declared.base.TowerBase.{TowerBase}

-- the interface may be compiled against, and the sizes are those of so many levels, which have all its classes together
pub record IsSoundBase (count : ℕ) (b : TowerBase) : Type 0 where
  pub base : IsBase b.interface
  pub levels : length b.sizes ≡ count
  pub classes : sum b.sizes ≡ length b.interface.classes
