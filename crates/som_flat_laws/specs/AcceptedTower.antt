-- Lists of releases of levels, each release accepted after the one before it, the upper ones made against releases of the lists below.
use Rattle.std.specs.Prelude.{◌≡◌, false, List, [], ◌∷◌, ◌++◌, map}
use Rattle.som_model.specs.declared.program.Interface.{Interface}
use Rattle.som_model.specs.declared.program.Release.{Release}
use Rattle.som_model.specs.Lists.{Mem}
use Rattle.som_model.specs.Class.{interface_of}
use Rattle.som_model.specs.Classes.{client_classes, interface_classes}
use Rattle.som_model.specs.Compatible.{Accepted, EachNext}
use Rattle.som_model.specs.Conforming.{ProgramOk}
use Rattle.som_release_laws.specs.Releasing.{HaveParents}
use Rattle.som_level_laws.specs.Levels.{CompatibleLevels}
use Rattle.som_level_programs.specs.ByLevels.{levels_below}
use Rattle.som_level_programs.specs.Towers.{LevelProgram, own_interface}
use Rattle.som_flat_laws.specs.Flat.{flat_interface, sizes_of}

-- the levels against which a program was compiled
abbrev pub embedded_levels : LevelProgram → List Interface
embedded_levels l = levels_below l.sizes l.client l.program.base

-- these, and above them the interface of its own classes
abbrev pub with_own : LevelProgram → List Interface
with_own l = embedded_levels l ++ own_interface l ∷ []

-- the interfaces of a release and of the libraries above it, the lowest level first
abbrev pub interfaces_of : Release → List LevelProgram → List Interface
interfaces_of r ls = interface_of r ∷ map own_interface ls

-- one member of each of these lists
abbrev pub AreMembers : List LevelProgram → List (List LevelProgram) → Type 0
AreMembers [] [] = Unit {0}
AreMembers (l ∷ ls) (list ∷ lists) = Mem l list × AreMembers ls lists
AreMembers [] (list ∷ lists) = ⊥
AreMembers (l ∷ ls) [] = ⊥

-- the levels on which each of these stands are compatible with those against which it was compiled
abbrev pub AreStanding : List Interface → List LevelProgram → Type 0
AreStanding below [] = Unit {0}
AreStanding below (l ∷ ls) = CompatibleLevels (embedded_levels l) below × AreStanding (below ++ own_interface l ∷ []) ls

-- one release of each list, the lowest first, where each can stand on those below it
pub record Choice (lowest : List Release) (uppers : List (List LevelProgram)) : Type 0 where
  pub release : Release
  pub among : Mem release lowest
  pub members : List LevelProgram
  pub are : AreMembers members uppers
  pub stand : AreStanding (interface_of release ∷ []) members

-- the interfaces of the chosen ones
abbrev pub chosen_interfaces : {lowest : List Release} {uppers : List (List LevelProgram)} → Choice lowest uppers → List Interface
chosen_interfaces c = interfaces_of c.release c.members

-- a program was made against releases of these lists: it conforms, and its base is the flat interface of one of each
pub record IsMadeAgainst (lowest : List Release) (uppers : List (List LevelProgram)) (l : LevelProgram) : Type 0 where
  pub choice : Choice lowest uppers
  pub sizes : l.sizes ≡ sizes_of (chosen_interfaces choice)
  pub base : l.program.base ≡ flat_interface (chosen_interfaces choice)
  pub conforms : ProgramOk l.program
  -- each of its classes has a parent, which the counts of images ask
  pub parents : HaveParents (interface_classes l.program.base ++ client_classes l.program)

-- a list of releases of one level: each is a library without a main, and was made against releases of the lists below; each next one, with the levels of its own below it, is compatible with the one before
pub record IsAcceptedLevel (lowest : List Release) (uppers : List (List LevelProgram)) (list : List LevelProgram) : Type 0 where
  pub libraries : (l : LevelProgram) → Mem l list → l.client ≡ false
  pub no_main : (l : LevelProgram) → Mem l list → l.program.main.statements ≡ []
  pub made_against : (l : LevelProgram) → Mem l list → IsMadeAgainst lowest uppers l
  pub next : EachNext (λ old new. CompatibleLevels (with_own old) (with_own new)) list

-- so are the lists of each level above these
abbrev pub AreAcceptedAbove : List Release → List (List LevelProgram) → List (List LevelProgram) → Type 0
AreAcceptedAbove lowest uppers [] = Unit {0}
AreAcceptedAbove lowest uppers (list ∷ lists) = IsAcceptedLevel lowest uppers list × AreAcceptedAbove lowest (uppers ++ list ∷ []) lists

-- lists of releases of levels that were accepted, the lowest level's first
pub record AcceptedTower (lowest : List Release) (uppers : List (List LevelProgram)) : Type 0 where
  pub lowest_accepted : Accepted lowest
  pub levels : AreAcceptedAbove lowest [] uppers

-- the last of each of these lists
abbrev pub AreNewest : List LevelProgram → List (List LevelProgram) → Type 0
AreNewest [] [] = Unit {0}
AreNewest (l ∷ ls) (list ∷ lists) = ((before : List LevelProgram) × (list ≡ before ++ l ∷ [])) × AreNewest ls lists
AreNewest [] (list ∷ lists) = ⊥
AreNewest (l ∷ ls) [] = ⊥
