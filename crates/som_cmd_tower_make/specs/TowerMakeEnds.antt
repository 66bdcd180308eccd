-- What texts come to that stand for a level of a tower, or for a client of one, over libraries that a store holds.
use Rattle.std.specs.Prelude.{◌≡◌, ◌≤◌, ◌+◌, ℕ, false, List, [], ◌∷◌, length, map, slice_get, Option, Some, None, Ok}
use Rattle.som_model.specs.declared.limits.TheConstants.{MAX_LIBRARY_CLASSES}
use Rattle.som_model.specs.declared.program.Interface.{Interface}
use Rattle.som_model.specs.declared.program.Release.{Release}
use Rattle.som_model.specs.Bytes.{Files}
use Rattle.som_model.specs.Class.{interface_of}
use Rattle.som_model.specs.Classes.{interface_classes}
use Rattle.som_model.specs.Conforming.{faces_breach}
use Rattle.som_flat_laws.specs.AcceptedTower.{AreStanding}
use Rattle.som_flat_laws.specs.Flat.{flat_interface, sizes_of}
use Rattle.som_sources.specs.declared.source.Source.{Source}
use Rattle.som_level_compile.specs.CompilingLevels.{StandForLevel}
use Rattle.som_towerimage.specs.declared.level.Level.{Level}
use Rattle.som_towerimage.specs.Spelling.{tower_image}
use Rattle.som_tower.specs.Towers.{interfaces_of, plain}
use Rattle.som_cmd_steps.specs.StoredImages.{IsUnder}
use Rattle.som_cmd_sources.specs.Texts.{texts_in}
use Rattle.som_cmd_build.specs.PutEnds.{PutsImage}
use Rattle.som_cmd_levels.specs.StoredLevels.{AreLevelsUnder}
use Rattle.som_cmd_tower_make.specs.TowerMakeAnswer.{has_main}

-- ---- libraries

-- a library above so many levels
pub record IsLibraryAbove (below : ℕ) (l : Level) : Type 0 where
  pub levels : length l.sizes ≡ below
  pub library : l.client ≡ false

-- the store holds the image of a library under the first name and those of others, each above one level more, under the next names; each conforms, and the levels on which it stands are compatible with those against which it was compiled
pub record AreTowerUnder (files : Files) (first : List ℕ) (others : List (List ℕ)) (base : Release) (uppers : List Level) : Type 0 where
  pub base_under : IsUnder files first base
  pub uppers_under : AreLevelsUnder files others uppers
  pub each : (i : ℕ) (l : Level) → slice_get uppers i ≡ Some l → IsLibraryAbove (i + 1) l
  pub stand : AreStanding (interface_of base ∷ []) (map plain uppers)

-- what stands above these libraries may be compiled against their flat interface: it breaks no rule, and has not too many classes
pub record IsSoundFlat (is : List Interface) : Type 0 where
  pub rules : faces_breach (interface_classes (flat_interface is)) ≡ None
  pub few : length (flat_interface is).classes ≤ MAX_LIBRARY_CLASSES

-- ---- texts

-- the store holds libraries of a tower, of which the flat interface may be compiled against, and texts that stand for the level above them: for a client where one of them is a main, and else for a library
pub record HoldsLevelTexts (files : Files) (first : List ℕ) (others names : List (List ℕ)) (l : Level) : Type 0 where
  pub base : Release
  pub uppers : List Level
  pub tower : AreTowerUnder files first others base uppers
  pub sound : IsSoundFlat (interfaces_of base uppers)
  pub texts : List Source
  pub texts_are : texts_in names files ≡ Ok texts
  pub stand : StandForLevel (has_main names) (flat_interface (interfaces_of base uppers)) texts l.program
  pub sizes : l.sizes ≡ sizes_of (interfaces_of base uppers)
  pub client : l.client ≡ has_main names

-- the tower image of the level, which is there and is bytes, stands under the name, no other file is changed, nothing was written, and the status is 0
abbrev pub PutsLevel : Files → List ℕ → Level → ℕ → Option Files → Option (List ℕ) → Option (List ℕ) → Type 0
PutsLevel files out l status new_files old new = PutsImage (tower_image l) files out status new_files old new
