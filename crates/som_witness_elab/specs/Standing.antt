-- That the trees of the texts of the client that shows a breach conform, and stand for that client.
use Rattle.std.specs.Prelude.{◌≡◌, Ok}
use Rattle.som_model.specs.declared.program.Interface.{Interface}
use Rattle.som_model.specs.Compatible.{CompatBreach}
use Rattle.som_sources.specs.declared.trees.Trees.{Trees}
use Rattle.som_sema_scope.specs.Words.{interfaces_of}
use Rattle.som_elab_methods.specs.Bodies.{bodies_of}
use Rattle.som_compile.specs.Compiling.{program_of}
use Rattle.som_elab_laws.specs.Conforming.{ClientConforms}
use Rattle.som_witness.specs.Program.{w_name, witness_program}
use Rattle.som_witness.specs.Showings.{showing_of, told_method}
use Rattle.som_witness_texts.specs.Files.{trees_of}
use Rattle.som_witness_texts.specs.Trees.{main_tree}

-- the trees of the texts of the client that shows the breach
abbrev pub witness_trees : Interface → Interface → CompatBreach → Trees
witness_trees old new b = trees_of (w_name old) (told_method b) (showing_of old new b)

-- compiled against the old interface they stand for that client
abbrev pub StandForWitness : Interface → Interface → CompatBreach → Type 0
StandForWitness old new b = program_of old (witness_trees old new b) main_tree ≡ Ok (witness_program old new b)

-- and against that interface they conform
abbrev pub WitnessConforms : Interface → Interface → CompatBreach → Type 0
WitnessConforms old new b = ClientConforms old (interfaces_of (witness_trees old new b).interfaces) (bodies_of (witness_trees old new b).bodies) main_tree.block
