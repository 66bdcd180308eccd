-- Libraries one above the other, each a flat program that conforms, above levels that keep what it was compiled against.
use Rattle.std.specs.Prelude.{◌≡◌, ℕ, Bool, false, List, [], ◌∷◌, ◌++◌, length, map, sum}
use Rattle.som_model.specs.declared.class.ClassDecl.{ClassDecl}
use Rattle.som_model.specs.declared.program.Interface.{Interface}
use Rattle.som_model.specs.declared.program.ClientProgram.{ClientProgram}
use Rattle.som_model.specs.Classes.{client_classes, interface_classes}
use Rattle.som_model.specs.Conforming.{ProgramOk}
use Rattle.som_release_laws.specs.Releasing.{HaveParents, Level}
use Rattle.som_rekey_laws.specs.Rekeying.{rekey_face}
use Rattle.som_level_laws.specs.Levels.{CompatibleLevels, level_classes}
use Rattle.som_level_programs.specs.ByLevels.{level_change, levels_below, own_by_level, main_by_level}

-- a library or a client above levels: the sizes of these levels, which of the two it is, and its flat program
pub record LevelProgram : Type 0 where
  pub sizes : List ℕ
  pub client : Bool
  pub program : ClientProgram

-- a program by levels: the faces against which it was compiled, its own classes, and its main
abbrev pub by_level : LevelProgram → Level
by_level l = record {
  olds = level_classes (levels_below l.sizes l.client l.program.base);
  own = own_by_level l.sizes l.client l.program;
  main = main_by_level l.sizes l.client l.program;
}

-- the interface of a program's own classes, which names classes by levels
abbrev pub own_interface : LevelProgram → Interface
own_interface l = record { classes = map (λ (d : ClassDecl). rekey_face (level_change l.sizes l.client l.program.base) d.face) l.program.classes }

-- a program conforms, and stands above as many levels as it has sizes, of these interfaces, which are compatible with those that it was compiled against
pub record StandsOn (is : List Interface) (l : LevelProgram) : Type 0 where
  pub conforms : ProgramOk l.program
  pub parents : HaveParents (interface_classes l.program.base ++ client_classes l.program)
  pub fits : sum l.sizes ≡ length l.program.base.classes
  pub levels : length l.sizes ≡ length is
  pub compatible : CompatibleLevels (levels_below l.sizes l.client l.program.base) is

-- libraries one above the other, the lowest first, each above levels of these interfaces and of the libraries before it
abbrev pub AreStacked : List Interface → List LevelProgram → Type 0
AreStacked is [] = Unit {0}
AreStacked is (l ∷ ls) = (StandsOn is l × (l.client ≡ false)) × AreStacked (is ++ own_interface l ∷ []) ls
