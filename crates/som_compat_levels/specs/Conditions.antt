-- Which lists of interfaces are compared.
use Rattle.std.specs.Prelude.{◌≡◌, ◌≤◌, List, length, All}
use Rattle.som_model.specs.declared.limits.TheConstants.{MAX_LIBRARY_CLASSES}
use Rattle.som_model.specs.declared.program.Interface.{Interface}
use Rattle.som_model.specs.Lists.{Mem}
use Rattle.som_model.specs.Loads.{FacesLoad}
use Rattle.som_compat.specs.Conditions.{IsCounted}
use Rattle.som_level_laws.specs.Levels.{level_classes}

-- no more classes than an interface may have, and each class within its counts
pub record IsWithinCounts (i : Interface) : Type 0 where
  pub classes : length i.classes ≤ MAX_LIBRARY_CLASSES
  pub counts : All IsCounted i.classes

-- at most eight levels, each within the counts, whose faces can be loaded together
pub record AreLoadableLevels (is : List Interface) : Type 0 where
  pub few : length is ≤ 8
  pub counts : (i : Interface) → Mem i is → IsWithinCounts i
  pub faces : FacesLoad (level_classes is)

-- as many levels in the new as in the old
pub record AreComparable (olds news : List Interface) : Type 0 where
  pub alike : length olds ≡ length news
  pub old : AreLoadableLevels olds
  pub new : AreLoadableLevels news
