-- When whole texts conform, as bytes under names.
use Rattle.std.specs.Prelude.{◌≡◌, List, [], ◌∷◌, Ok}
use Rattle.som_model.specs.declared.program.Interface.{Interface}
use Rattle.som_ast.specs.declared.body.MainFile.{MainFile}
use Rattle.som_sources.specs.declared.source.Source.{Source}
use Rattle.som_sources.specs.declared.trees.Trees.{Trees}
use Rattle.som_sources.specs.Reading.{ReadsAll}
use Rattle.som_elab_methods.specs.Bodies.{bodies_of}
use Rattle.som_sema_scope.specs.Words.{interfaces_of}
use Rattle.som_elab_laws.specs.Conforming.{ClientConforms, LibraryConforms}

-- the texts of a library conform: each is read, and what stands in them keeps S1 to S20 and passes no limit
pub record LibrarySourcesConform (ss : List Source) : Type 0 where
  pub trees : Trees
  pub read : ReadsAll ss (Ok trees)
  pub conform : LibraryConforms (interfaces_of trees.interfaces) (bodies_of trees.bodies)

-- the texts of a client conform against a base: each is read, one of them is a main, and what stands in them keeps S1 to S20 and passes no limit
pub record ClientSourcesConform (base : Interface) (ss : List Source) : Type 0 where
  pub trees : Trees
  pub main : MainFile
  pub read : ReadsAll ss (Ok trees)
  pub one_main : trees.mains ≡ main ∷ []
  pub conform : ClientConforms base (interfaces_of trees.interfaces) (bodies_of trees.bodies) main.block
