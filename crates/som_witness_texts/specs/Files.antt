-- The files that the texts of a client are, and the trees of all of them.
use Rattle.std.specs.Prelude.{◌≡◌, ◌<◌, ◌^◌, ℕ, List, [], ◌∷◌, ◌++◌, length, codes, Some}
use Rattle.som_model.specs.declared.key.MethodRef.{MethodRef}
use Rattle.som_model.specs.declared.class.Sig.{Sig}
use Rattle.som_model.specs.declared.class.Way.{Way}
use Rattle.som_model.specs.declared.class.Entry.TheVariants as entries
use Rattle.som_model.specs.declared.class.ClassFace.{ClassFace}
use Rattle.som_model.specs.declared.program.Interface.{Interface}
use Rattle.som_model.specs.Lists.{Mem}
use Rattle.som_model.specs.Compatible.{release_of, signature}
use Rattle.som_ast.specs.declared.body.BodyFile.{BodyFile}
use Rattle.som_sources.specs.declared.source.Source.{Source}
use Rattle.som_sources.specs.declared.trees.Trees.{Trees}
use Rattle.som_witness.specs.declared.verdict.Texts.{Texts}
use Rattle.som_witness.specs.Showings.{Showing, StandsBelow}
use Rattle.som_witness_texts.specs.Trees.{idl_tree, bodies_tree, main_tree}

-- a file of this name
abbrev pub file_of : List ℕ → List ℕ → Source
file_of name text = record { name = name; bytes = text }

-- the file of the bodies, where there are some
abbrev pub bodies_files : List ℕ → List Source
bodies_files [] = []
bodies_files (b ∷ bs) = file_of (codes "w.bod") (b ∷ bs) ∷ []

-- the files of a client's texts
abbrev pub files_of : Texts → List Source
files_of t = file_of (codes "w.idl") t.idl ∷ (bodies_files t.bodies ++ file_of (codes "w.main") t.main ∷ [])

-- the trees of the bodies, where there are some
abbrev pub bodies_trees : List ℕ → MethodRef → Showing → List BodyFile
bodies_trees w m StandsBelow = []
bodies_trees w m s = bodies_tree w m s ∷ []

-- the trees of all texts, for W's name, the told method and how the client shows the breach
abbrev pub trees_of : List ℕ → MethodRef → Showing → Trees
trees_of w m s = record { interfaces = idl_tree w m s ∷ []; bodies = bodies_trees w m s; mains = main_tree ∷ [] }

-- the method has no more parameters than a list of the code may have values
abbrev pub FewParameters : Interface → MethodRef → Type 0
FewParameters old m = (s : Sig) → signature (release_of old) m.class m.name ≡ Some s → length s.params < 2 ^ 64

-- no class of the interface introduces a method with more
abbrev pub IntroducesFew : Interface → Type 0
IntroducesFew old = (f : ClassFace) (name : List ℕ) (sig : Sig) (way : Way) → Mem f old.classes → Mem (entries.Introduced name sig way) f.entries → length sig.params < 2 ^ 64
