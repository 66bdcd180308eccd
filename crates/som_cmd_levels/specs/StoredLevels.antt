-- Tower images that a store holds.
use Rattle.std.specs.Prelude.{◌≡◌, ℕ, List, [], ◌∷◌, Some}
use Rattle.std.specs.FinMap.{get}
use Rattle.som_model.specs.Bytes.{AreBytes, Files}
use Rattle.som_model.specs.Conforming.{ProgramOk}
use Rattle.som_towerimage.specs.declared.level.Level.{Level}
use Rattle.som_towerimage.specs.Spelling.{FitsTower, tower_image}

-- the level fits a tower, and the store holds its tower image under the name
pub record HoldsLevel (files : Files) (name : List ℕ) (l : Level) : Type 0 where
  pub fits : FitsTower l
  pub bytes : List ℕ
  pub image_is : get files name ≡ Some bytes
  pub bytes_are : AreBytes bytes
  pub spelled : tower_image l ≡ Some bytes

-- and its program conforms
pub record IsLevelUnder (files : Files) (name : List ℕ) (l : Level) : Type 0 where
  pub holds : HoldsLevel files name l
  pub conforms : ProgramOk l.program

-- the store holds the tower image of each of these levels under its name, and they conform
abbrev pub AreLevelsUnder : Files → List (List ℕ) → List Level → Type 0
AreLevelsUnder files [] [] = Unit {0}
AreLevelsUnder files [] (l ∷ ls) = ⊥
AreLevelsUnder files (n ∷ ns) [] = ⊥
AreLevelsUnder files (n ∷ ns) (l ∷ ls) = IsLevelUnder files n l × AreLevelsUnder files ns ls
