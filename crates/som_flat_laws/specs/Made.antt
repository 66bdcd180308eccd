-- Levels of libraries that were each compiled against older ones than those on which they stand.
use Rattle.std.specs.Prelude.{◌≡◌, List, [], ◌∷◌, ◌++◌, length}
use Rattle.som_model.specs.declared.program.Interface.{Interface}
use Rattle.som_model.specs.Loads.{FacesLoad}
use Rattle.som_level_laws.specs.Levels.{CompatibleLevels, level_classes}

-- a library was made over levels that those below it keep
pub record IsMadeOver (below : List Interface) (own : Interface) : Type 0 where
  -- the levels against which it was compiled, as many as those below it
  pub olds : List Interface
  pub as_many : length olds ≡ length below
  -- its own classes can be loaded with these
  pub faces : FacesLoad (level_classes (olds ++ own ∷ []))
  -- the levels below it are compatible with these
  pub compatible : CompatibleLevels olds below

-- each of the upper levels was made over levels that those below it keep
abbrev pub AreMadeOver : List Interface → List Interface → Type 0
AreMadeOver below [] = Unit {0}
AreMadeOver below (own ∷ above) = IsMadeOver below own × AreMadeOver (below ++ own ∷ []) above

-- so was each level; the lowest over none
abbrev pub AreMadeLevels : List Interface → Type 0
AreMadeLevels is = AreMadeOver [] is
