-- Libraries that stand above others, and what they promise with those below them.
use Rattle.std.specs.Prelude.{◌≡◌, false, List, map}
use Rattle.som_model.specs.declared.class.ClassDecl.{ClassDecl}
use Rattle.som_model.specs.declared.program.ClientProgram.{ClientProgram}
use Rattle.som_model.specs.declared.program.Interface.{Interface}
use Rattle.som_model.specs.Conforming.{ProgramOk}
use Rattle.som_rekey_laws.specs.Rekeying.{ModuleChange, rekey_face}
use Rattle.som_level_programs.specs.Towers.{LevelProgram}
use Rattle.som_flat_laws.specs.AcceptedTower.{with_own}
use Rattle.som_cliimage.specs.Limits.{IsWithinLimits}
use Rattle.som_towerimage.specs.declared.level.Level.{Level}
use Rattle.som_towerimage.specs.Spelling.{FitsTower}

-- a level as its laws see it
abbrev pub plain : Level → LevelProgram
plain l = record { sizes = l.sizes; client = l.client; program = l.program }

-- the interfaces of the levels below, as they were when the level was compiled, and above them that of its own classes
abbrev pub promised : Level → List Interface
promised l = with_own (plain l)

-- the interface of a program's own classes where names get other modules
abbrev pub own_under : ModuleChange → ClientProgram → Interface
own_under change p = record { classes = map (λ (d : ClassDecl). rekey_face change d.face) p.classes }

-- a library that fits a tower, and that an image has room for
pub record IsReadLibrary (l : Level) : Type 0 where
  pub fits : FitsTower l
  pub within : IsWithinLimits l.program
  pub library : l.client ≡ false

-- and whose program conforms
pub record IsSoundLibrary (l : Level) : Type 0 where
  pub read : IsReadLibrary l
  pub conforms : ProgramOk l.program
