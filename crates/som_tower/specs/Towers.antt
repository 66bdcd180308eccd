-- A library, levels of libraries above it, and a client on top: what is asked of them, what they break first, and their classes.
use Rattle.std.specs.Prelude.{◌≡◌, ◌≤◌, ◌+◌, ℕ, true, false, List, [], ◌∷◌, ◌++◌, length, map, slice_get, Option, Some, None, Result, Ok, Err}
use Rattle.som_model.specs.declared.program.Interface.{Interface}
use Rattle.som_model.specs.declared.program.Release.{Release}
use Rattle.som_model.specs.Class.{Class, interface_of}
use Rattle.som_model.specs.Classes.{library_classes}
use Rattle.som_model.specs.Compatible.{CompatBreach}
use Rattle.som_model.specs.Conforming.{ProgramOk, ReleaseOk}
use Rattle.som_model.specs.Lists.{or_else}
use Rattle.som_release_laws.specs.Releasing.{stacked}
use Rattle.som_level_laws.specs.Levels.{first_level_break}
use Rattle.som_level_programs.specs.ByLevels.{levels_below, own_by_level}
use Rattle.som_level_programs.specs.Towers.{LevelProgram, by_level, own_interface}
use Rattle.som_link_check.specs.Pairs.{ProgramCounted, ReleaseCounted}
use Rattle.som_towerimage.specs.declared.level.Level.{Level}
use Rattle.som_towerimage.specs.Spelling.{FitsTower}
use Rattle.som_compat_levels.specs.declared.breach.LevelFault.{LevelFault}
use Rattle.som_compat_levels.specs.declared.breach.LevelFault.TheVariants as faults
use Rattle.som_compat_levels.specs.Told.{IsTold}

-- a level as its laws see it
abbrev pub plain : Level → LevelProgram
plain l = record { sizes = l.sizes; client = l.client; program = l.program }

-- its program conforms, an image has room for it, and it fits a tower
pub record IsSound (l : Level) : Type 0 where
  pub conforms : ProgramOk l.program
  pub counted : ProgramCounted l.program
  pub fits : FitsTower l

-- a library above so many levels
pub record IsUpper (below : ℕ) (l : Level) : Type 0 where
  pub sound : IsSound l
  pub levels : length l.sizes ≡ below
  pub library : l.client ≡ false

-- a library that conforms and that an image has room for, and libraries above it, each above one level more; eight levels at most
pub record AreLibraries (base : Release) (uppers : List Level) : Type 0 where
  pub base_ok : ReleaseOk base
  pub base_counted : ReleaseCounted base
  pub each : (i : ℕ) (l : Level) → slice_get uppers i ≡ Some l → IsUpper (i + 1) l
  pub few : length uppers + 1 ≤ 8

-- a client above all of these
pub record IsTowerOf (base : Release) (uppers : List Level) (client : Level) : Type 0 where
  pub libraries : AreLibraries base uppers
  pub sound : IsSound client
  pub is_client : client.client ≡ true
  pub levels : length client.sizes ≡ length uppers + 1

-- what the levels below, from the lowest up, don't keep first of what the programs above them were compiled against: each is compared with those below it, the lowest first
abbrev pub tower_break : List Interface → List LevelProgram → Option (ℕ × CompatBreach)
tower_break is [] = None
tower_break is (l ∷ ls) = or_else (first_level_break (levels_below l.sizes l.client l.program.base) is) (tower_break (is ++ own_interface l ∷ []) ls)

-- all is well exactly where there is no breach, and a breach that is told is the one that there is; want of memory says nothing
abbrev pub TellsTower : {A : Type 0} → Option (ℕ × CompatBreach) → Result A LevelFault → Type 0
TellsTower breach (Ok _) = breach ≡ None
TellsTower breach (Err (faults.Breach b)) = (found : ℕ × CompatBreach) × (breach ≡ Some found) × IsTold found b
TellsTower breach (Err faults.NoMemory) = Unit {0}

-- the classes of the library and of the levels above it, by levels
abbrev pub library_levels : Release → List Level → List Class
library_levels base uppers = stacked (library_classes base) (map by_level (map plain uppers))

-- and with the client's own
abbrev pub tower_classes : Release → List Level → Level → List Class
tower_classes base uppers client = library_levels base uppers ++ own_by_level client.sizes client.client client.program

-- the programs above the library: its levels, and the client last
abbrev pub programs_above : List Level → Level → List LevelProgram
programs_above uppers client = map plain uppers ++ plain client ∷ []

-- the interfaces of the library and of the levels above it, by levels
abbrev pub interfaces_of : Release → List Level → List Interface
interfaces_of base uppers = interface_of base ∷ map own_interface (map plain uppers)
