-- What the single steps come to.
use Rattle.std.specs.Prelude.{◌≡◌, ℕ, List, Some, None, Result, Ok, Err}
use Rattle.som_model.specs.declared.program.Interface.{Interface}
use Rattle.som_model.specs.Compatible.{first_break}
use Rattle.som_sources.specs.declared.fault.CompileFault.{CompileFault}
use Rattle.som_sources.specs.declared.fault.CompileFault.TheVariants as compiling
use Rattle.som_sources.specs.declared.source.Source.{Source}
use Rattle.som_compile.specs.Compiling.{Compiles, CompilesClient}
use Rattle.som_generator.specs.declared.fault.MakeFault.{MakeFault}
use Rattle.som_generator.specs.declared.fault.MakeFault.TheVariants as faults
use Rattle.som_generator.specs.declared.fault.Unmade.{Unmade}
use Rattle.som_generator.specs.declared.fault.Unmade.TheVariants as unmade
use Rattle.som_generator.specs.declared.made.Client.{Client}
use Rattle.som_generator.specs.declared.made.Library.{Library}
use Rattle.som_generator.specs.Making.{IsClient, IsLibrary, breach_of}

-- why texts aren't compiled, as the code tells it
abbrev pub fault_of : CompileFault → MakeFault
fault_of (compiling.Text w) = faults.Unmade (unmade.Texts w)
fault_of compiling.NoMemory = faults.NoMemory

-- what compiling a library's texts comes to
abbrev pub ImageComes : List Source → Result (List ℕ) Unmade → Type 0
ImageComes ss (Ok image) = Compiles ss (Ok image)
ImageComes ss (Err (unmade.Texts w)) = Compiles ss (Err w)
ImageComes ss (Err (unmade.NotKept k)) = ⊥

-- what making a library of texts comes to: its release and image, or why the texts aren't compiled
abbrev pub LibraryComes : List Source → Result Library Unmade → Type 0
LibraryComes ss (Ok l) = IsLibrary ss l
LibraryComes ss (Err (unmade.Texts w)) = Compiles ss (Err w)
LibraryComes ss (Err (unmade.NotKept k)) = ⊥

-- what compiling a client's texts against a base comes to
abbrev pub ClientImageComes : Interface → List Source → Result (List ℕ) Unmade → Type 0
ClientImageComes base ss (Ok image) = CompilesClient base ss (Ok image)
ClientImageComes base ss (Err (unmade.Texts w)) = CompilesClient base ss (Err w)
ClientImageComes base ss (Err (unmade.NotKept k)) = ⊥

-- what making a client of texts comes to: its program and image, or why the texts aren't compiled
abbrev pub ClientComes : Interface → List Source → Result Client Unmade → Type 0
ClientComes base ss (Ok c) = IsClient base ss c
ClientComes base ss (Err (unmade.Texts w)) = CompilesClient base ss (Err w)
ClientComes base ss (Err (unmade.NotKept k)) = ⊥

-- what holding a newer interface against an older one comes to
abbrev pub ComparingComes : Interface → Interface → Result (Unit {0}) Unmade → Type 0
ComparingComes old new (Ok u) = first_break old new ≡ None
ComparingComes old new (Err (unmade.Texts w)) = ⊥
ComparingComes old new (Err (unmade.NotKept k)) = first_break old new ≡ Some (breach_of k)
