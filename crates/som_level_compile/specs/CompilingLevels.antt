-- What compiling the texts of a library above others, or of a client of these, comes to: its tower image, or what is first wrong with the texts.
use Rattle.std.specs.Prelude.{◌≡◌, ◌≤◌, ℕ, Bool, true, false, List, [], ◌∷◌, length, sum, Some, Result, Ok, Err}
use Rattle.som_model.specs.declared.program.ClientProgram.{ClientProgram}
use Rattle.som_model.specs.declared.program.Interface.{Interface}
use Rattle.som_ast.specs.declared.body.MainFile.{MainFile}
use Rattle.som_elab.specs.Blocks.{Refusal}
use Rattle.som_sources.specs.declared.fault.TextFault.{TextFault}
use Rattle.som_sources.specs.declared.source.Source.{Source}
use Rattle.som_sources.specs.declared.trees.Trees.{Trees}
use Rattle.som_sources.specs.Reading.{ReadsAll}
use Rattle.som_compile.specs.Compiling.{StandForClient, program_of, refusal_told}
use Rattle.som_towerimage.specs.Spelling.{most_below, tower_image}

-- levels of these sizes can be those below what is compiled against the base: they have its classes, and they are not too many
pub record AreSizesBelow (base : Interface) (sizes : List ℕ) (client : Bool) : Type 0 where
  pub some : 1 ≤ length sizes
  pub few : length sizes ≤ most_below client
  pub classes : sum sizes ≡ length base.classes

-- a library's main has no statements
abbrev pub empty_main : MainFile
empty_main = record { block = record { statements = [] } }

-- a client's main is the only one of its texts
abbrev pub IsMainOf : Bool → Trees → MainFile → Type 0
IsMainOf true ts main = ts.mains ≡ main ∷ []
IsMainOf false ts main = main ≡ empty_main

-- the texts of a library stand for this program above a base
pub record StandForUpper (base : Interface) (ss : List Source) (p : ClientProgram) : Type 0 where
  pub trees : Trees
  pub read : ReadsAll ss (Ok trees)
  pub built : program_of base trees empty_main ≡ Ok p

-- the texts of a client, or of a library, stand for this program above a base
abbrev pub StandForLevel : Bool → Interface → List Source → ClientProgram → Type 0
StandForLevel true base ss p = StandForClient base ss p
StandForLevel false base ss p = StandForUpper base ss p

-- All texts are read before it is asked what they stand for.
pub data CompilesLevel (base : Interface) (sizes : List ℕ) (client : Bool) (ss : List Source) : Result (List ℕ) TextFault → Type 0 where
  level_unread : (w : TextFault) → ReadsAll ss (Err w) → CompilesLevel base sizes client ss (Err w)
  level_unbuilt : (ts : Trees) (main : MainFile) (f : Refusal) → ReadsAll ss (Ok ts) → IsMainOf client ts main → program_of base ts main ≡ Err f → CompilesLevel base sizes client ss (Err (refusal_told f))
  a_level_image : (p : ClientProgram) (image : List ℕ) → StandForLevel client base ss p → tower_image (record { sizes = sizes; program = p; client = client }) ≡ Some image → CompilesLevel base sizes client ss (Ok image)
