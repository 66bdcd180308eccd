-- What is in the way of linking a client with a library.
use Rattle.std.specs.Prelude.{◌≡◌, ◌≤◌, Bool, true, false, length, Option}
use Rattle.std.specs.Option.{option_map}
use Rattle.som_model.specs.declared.class.ClassDecl.{ClassDecl}
use Rattle.som_model.specs.declared.class.ClassFace.{ClassFace}
use Rattle.som_model.specs.declared.limits.TheConstants.{MAX_CLIENT_CLASSES, MAX_LIBRARY_CLASSES}
use Rattle.som_model.specs.declared.program.ClientProgram.{ClientProgram}
use Rattle.som_model.specs.declared.program.Release.{Release}
use Rattle.som_model.specs.Lists.{Mem, or_else}
use Rattle.som_model.specs.Class.{interface_of}
use Rattle.som_model.specs.Rules.{RuleBreach}
use Rattle.som_model.specs.Conforming.{program_breach, release_breach}
use Rattle.som_model.specs.Compatible.{CompatBreach, first_break}
use Rattle.som_model.specs.Counts.{ClassCounted, FaceCounted, block_counted}

-- a rule that is broken, by the client where it is said so and else by the library; or what the library doesn't keep of what the client was compiled against
pub data Obstacle : Type 0 where
  Breaks : Bool → RuleBreach → Obstacle
  DoesntKeep : CompatBreach → Obstacle

-- what is in the way first: the library's rules are looked at, then the client's, and then what the library keeps
abbrev pub obstacle : Release → ClientProgram → Option Obstacle
obstacle r p = or_else (option_map (Breaks false) (release_breach r)) (or_else (option_map (Breaks true) (program_breach p)) (option_map DoesntKeep (first_break p.base (interface_of r))))

-- a release that an image has room for
pub record ReleaseCounted (r : Release) : Type 0 where
  pub few : length r.classes ≤ MAX_LIBRARY_CLASSES
  pub each : (d : ClassDecl) → Mem d r.classes → ClassCounted d

-- a client program that an image has room for
pub record ProgramCounted (p : ClientProgram) : Type 0 where
  pub few_faces : length p.base.classes ≤ MAX_LIBRARY_CLASSES
  pub each_face : (f : ClassFace) → Mem f p.base.classes → FaceCounted f
  pub few : length p.classes ≤ MAX_CLIENT_CLASSES
  pub each : (d : ClassDecl) → Mem d p.classes → ClassCounted d
  pub main : block_counted p.main ≡ true
