-- What texts of a client are compiled to, and that linking a client is refused.
use Rattle.std.specs.Prelude.{◌≡◌, ◌≤◌, ℕ, List, Some, Ok}
use Rattle.som_model.specs.declared.limits.TheConstants.{MAX_BYTES}
use Rattle.som_model.specs.declared.program.ClientProgram.{ClientProgram}
use Rattle.som_model.specs.declared.program.Interface.{Interface}
use Rattle.som_model.specs.declared.program.Release.{Release}
use Rattle.som_model.specs.Class.{interface_of}
use Rattle.som_model.specs.Compatible.{CompatBreach, first_break}
use Rattle.som_model.specs.Conforming.{ProgramOk}
use Rattle.som_model.specs.Images.{client_image}
use Rattle.som_sources.specs.declared.source.Source.{Source}
use Rattle.som_sources.specs.Sources.{bytes_in, mains_in, names_of}
use Rattle.som_compile.specs.Compiling.{CompilesClient, StandForClient}
use Rattle.som_link_check.specs.Pairs.{DoesntKeep, obstacle}

-- These texts, one of which is a main and which aren't too long, stand for this client program against the base, and are compiled to its image.
pub record AreCompiledTo (base : Interface) (ss : List Source) (p : ClientProgram) : Type 0 where
  pub one_main : mains_in (names_of ss) ≡ 1
  pub bytes : bytes_in ss ≤ MAX_BYTES
  pub stand : StandForClient base ss p
  pub image : List ℕ
  pub spelled : client_image p ≡ Some image
  pub compiled : CompilesClient base ss (Ok image)

-- The client program conforms, and what is in the way of linking it with the release is that the release doesn't keep this.
pub record IsRefused (p : ClientProgram) (r : Release) (b : CompatBreach) : Type 0 where
  pub conforms : ProgramOk p
  pub unkept : first_break p.base (interface_of r) ≡ Some b
  pub in_the_way : obstacle r p ≡ Some (DoesntKeep b)
