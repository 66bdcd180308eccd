-- What the texts of a level stand for conforms, has room in its image, and fits the levels below it.
use Rattle.std.proofs.Common.{◌≡◌, ℕ, ◌≤◌, Bool, true, false, if◌then◌else◌, List, [], ◌∷◌, length, Result, Ok, refl, sym, ap, ◌∙◌, subst, arith}
use Rattle.std.specs.List.{AllByRecursion}
use Rattle.som_model.specs.declared.limits.TheConstants.{MAX_BYTES}
use Rattle.som_model.specs.declared.program.ClientProgram.{ClientProgram}
use Rattle.som_model.specs.declared.program.Interface.{Interface}
use Rattle.som_model.specs.declared.syntax.Block.{Block}
use Rattle.som_model.specs.declared.key.Module.TheVariants as modules
use Rattle.som_model.specs.Conforming.{ProgramOk}
use Rattle.som_model.specs.Typing.{in_main}
use Rattle.som_ast.specs.declared.body.MainFile.{MainFile}
use Rattle.som_sema_scope.specs.Words.{interfaces_of}
use Rattle.som_elab_methods.specs.Bodies.{bodies_of}
use Rattle.som_sema_drafts.specs.declared.types.Refused.{Refused}
use Rattle.som_elab.specs.Blocks.{Answers}
use Rattle.som_elab.specs.Elaboration.{among_over}
use Rattle.som_elab.proofs.Apart.{program_apart}
use Rattle.som_elab.proofs.Conforms.{program_conforms as program_ok}
use Rattle.som_elab_body.proofs.TextForms.{block_is}
use Rattle.som_elab_body.specs.Statements.{BodyBreach}
use Rattle.som_cliimage.specs.Limits.{IsWithinLimits}
use Rattle.som_sources.specs.declared.source.Source.{Source}
use Rattle.som_sources.specs.declared.trees.Trees.{Trees}
use Rattle.som_sources.specs.Reading.{ReadsAll, Says}
use Rattle.som_sources.specs.Sources.{bytes_in, mains_in, names_of}
use Rattle.som_sources.proofs.MainLaws.{one_main_read}
use Rattle.som_sources.proofs.TextsWithin.{IsShortMain, texts_within}
use Rattle.som_compile.specs.Compiling.{IsBase, program_of}
use Rattle.som_compile.proofs.FilesWithin.{bodies_within, interfaces_within}
use Rattle.som_compile.proofs.ReleaseWithin.{program_within}
use Rattle.som_towerimage.specs.Spelling.{FitsTower}
use Rattle.som_level_compile.specs.CompilingLevels.{AreSizesBelow, IsMainOf, StandForLevel, empty_main}

-- the trees of a level's texts, its main, and the program for which they stand
pub record Stands (client : Bool) (base : Interface) (ss : List Source) (p : ClientProgram) : Type 0 where
  pub trees : Trees
  pub main : MainFile
  pub read : ReadsAll ss (Ok trees)
  pub main_is : IsMainOf client trees main
  pub built : program_of base trees main ≡ Ok p

pub to_stands : (client : Bool) (base : Interface) (ss : List Source) (p : ClientProgram) → StandForLevel client base ss p → Stands client base ss p
to_stands true base ss p s = record { trees = s.trees; main = s.main; read = s.read; main_is = s.one_main; built = s.built }
to_stands false base ss p s = record { trees = s.trees; main = empty_main; read = s.read; main_is = refl; built = s.built }

pub from_stands : (client : Bool) (base : Interface) (ss : List Source) (p : ClientProgram) → Stands client base ss p → StandForLevel client base ss p
from_stands true base ss p s = record { trees = s.trees; main = s.main; read = s.read; one_main = s.main_is; built = s.built }
from_stands false base ss p s = record { trees = s.trees; read = s.read; built = subst (λ (m : MainFile). program_of base s.trees m ≡ Ok p) s.main_is s.built }

pub level_conforms : (client : Bool) (base : Interface) (ss : List Source) (p : ClientProgram) → IsBase base → Stands client base ss p → ProgramOk p
level_conforms client base ss p b s = program_ok base (interfaces_of s.trees.interfaces) (bodies_of s.trees.bodies) s.main.block p b.conforms s.built

only_short : (fs : List MainFile) (f : MainFile) → fs ≡ f ∷ [] → AllByRecursion IsShortMain fs → IsShortMain f
only_short fs f e all = (subst (λ (gs : List MainFile). AllByRecursion IsShortMain gs) e all).0

empty_short : IsShortMain empty_main
empty_short = record { most = 0; few = omega arith; within = record { block = (omega arith, λ k d lt. absurd (omega (arith, lt))) } }

main_short : (client : Bool) (ts : Trees) (main : MainFile) → AllByRecursion IsShortMain ts.mains → IsMainOf client ts main → IsShortMain main
main_short true ts main all e = only_short ts.mains main e all
main_short false ts main all e = subst IsShortMain (sym e) empty_short

pub level_within : (client : Bool) (base : Interface) (ss : List Source) (p : ClientProgram) → IsBase base → bytes_in ss ≤ MAX_BYTES → Stands client base ss p → IsWithinLimits p
level_within client base ss p b few s =
    let w = texts_within ss s.trees few s.read in
    let main = main_short client s.trees s.main w.mains s.main_is in
    program_within base (interfaces_of s.trees.interfaces) (bodies_of s.trees.bodies) s.main.block p main.most main.few b.few b.each_face
    (interfaces_within s.trees.interfaces w.interfaces) (bodies_within s.trees.bodies w.bodies) main.within.block s.built

-- ---- the levels below

abbrev a_block : Block → Result Block BodyBreach
a_block x = Ok x

no_statements : (b : Block) → a_block (record { statements = [] }) ≡ a_block b → b.statements ≡ []
no_statements b e = let same : record { statements = [] } ≡ b = cc in ap (λ (z : Block). z.statements) (sym same)

main_left : (client : Bool) (base : Interface) (ss : List Source) (p : ClientProgram) → Stands client base ss p → client ≡ false → p.main.statements ≡ []
main_left true base ss p s e = absurd (cc)
main_left false base ss p s e =
    let built = subst (λ (m : MainFile). program_of base s.trees m ≡ Ok p) s.main_is s.built in
    let apart = program_apart base (interfaces_of s.trees.interfaces) (bodies_of s.trees.bodies) empty_main.block p built in
    no_statements p.main (sym (block_is (among_over modules.Client base (interfaces_of s.trees.interfaces)) in_main empty_main.block []) ∙ apart.block)

pub level_fits : (sizes : List ℕ) (client : Bool) (base : Interface) (ss : List Source) (p : ClientProgram) → AreSizesBelow base sizes client → Stands client base ss p → FitsTower (record { sizes = sizes; program = p; client = client })
level_fits sizes client base ss p a s =
    let apart = program_apart base (interfaces_of s.trees.interfaces) (bodies_of s.trees.bodies) s.main.block p s.built in
    record {
      some = a.some;
      few = a.few;
      classes = a.classes ∙ ap (λ (i : Interface). length i.classes) (sym apart.over);
      main = main_left client base ss p s;
    }

-- ---- what the code builds

-- a library's main is empty
pub for_library : (client : Bool) (base : Interface) (ts : Trees) (r : Result ClientProgram Refused) → client ≡ false → Answers (program_of base ts empty_main) r
    → (main : MainFile) × IsMainOf client ts main × Answers (program_of base ts main) r
for_library true base ts r e a = absurd (cc)
for_library false base ts r e a = (empty_main, refl, a)

-- a client's texts have a main
pub client_mains : (client : Bool) (ss : List Source) (ts : Trees) → Says (ReadsAll ss) (Ok ts) → mains_in (names_of ss) ≡ (if client then 1 else 0) → client ≡ true → length ts.mains ≡ 1
client_mains true ss ts x one e = one_main_read ss ts x one
client_mains false ss ts x one e = absurd (cc)
