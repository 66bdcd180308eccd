-- Compiling a level's texts comes to one thing, and the code to that.
use Rattle.std.proofs.Common.{◌≡◌, ℕ, ◌≤◌, Bool, true, false, if◌then◌else◌, List, [], ◌∷◌, Option, Some, Result, Ok, Err, refl, sym, ap, ◌∙◌, subst}
use Rattle.som_model.specs.declared.limits.TheConstants.{MAX_BYTES}
use Rattle.som_model.specs.declared.program.ClientProgram.{ClientProgram}
use Rattle.som_model.specs.declared.program.Interface.{Interface}
use Rattle.som_ast.specs.declared.body.MainFile.{MainFile}
use Rattle.som_cliimage.specs.Limits.{IsWithinLimits}
use Rattle.som_sema_drafts.specs.declared.types.Refused.{Refused}
use Rattle.som_elab.specs.Blocks.{Answers, Refusal}
use Rattle.som_sources.specs.declared.fault.TextFault.{TextFault}
use Rattle.som_sources.specs.declared.fault.CompileFault.{CompileFault}
use Rattle.som_sources.specs.declared.fault.CompileFault.TheVariants as faults
use Rattle.som_sources.specs.declared.source.Source.{Source}
use Rattle.som_sources.specs.declared.trees.Trees.{Trees}
use Rattle.som_sources.specs.Reading.{ReadsAll, Says, Tells}
use Rattle.som_sources.specs.Sources.{bytes_in, mains_in, names_of}
use Rattle.som_sources.proofs.MainLaws.{one_main_read}
use Rattle.som_sources.proofs.ReadLaws.{some_readings, same_trees, same_unread, read_or_not}
use Rattle.som_compile.specs.Compiling.{IsBase, building_told, refusal_told, program_of}
use Rattle.som_compile.proofs.ClientLaws.{only_one}
use Rattle.som_compile.proofs.CompileLaws.{Compiling, compiling_failed, refusal_joins}
use Rattle.som_towerimage.specs.Spelling.{FitsTower, tower_image}
use Rattle.som_towerimage.proofs.Encoded.{image_there}
use Rattle.som_level_compile.specs.CompilingLevels.{AreSizesBelow, CompilesLevel, IsMainOf, StandForLevel, a_level_image, empty_main, level_unbuilt, level_unread}
use Rattle.som_level_compile.proofs.LevelTrees.{Stands, from_stands, level_conforms, level_fits, level_within, to_stands}

-- ---- there is an answer

-- a program that a level's texts stand for has a tower image
pub level_image : (base : Interface) (sizes : List ℕ) (client : Bool) (ss : List Source) (p : ClientProgram) → IsBase base → AreSizesBelow base sizes client → bytes_in ss ≤ MAX_BYTES → StandForLevel client base ss p
    → (image : List ℕ) × (tower_image (record { sizes = sizes; program = p; client = client }) ≡ Some image)
level_image base sizes client ss p b a few s =
    let t = to_stands client base ss p s in
    let i = image_there (record { sizes = sizes; program = p; client = client }) (level_fits sizes client base ss p a t) (level_conforms client base ss p b t) (level_within client base ss p b few t) in
    (i.0, i.1)

some_main : (client : Bool) (ss : List Source) (ts : Trees) → ReadsAll ss (Ok ts) → mains_in (names_of ss) ≡ (if client then 1 else 0) → (main : MainFile) × IsMainOf client ts main
some_main true ss ts x one = only_one ts.mains (one_main_read ss ts x one)
some_main false ss ts x one = (empty_main, refl)

module _ (base : Interface) (sizes : List ℕ) (client : Bool) (ss : List Source) (b : IsBase base) (a : AreSizesBelow base sizes client) (few : bytes_in ss ≤ MAX_BYTES) where
  by_building : (ts : Trees) (main : MainFile) → ReadsAll ss (Ok ts) → IsMainOf client ts main → (r : Result ClientProgram Refusal) → program_of base ts main ≡ r → (told : Compiling) × CompilesLevel base sizes client ss told
  by_building ts main x o (Ok p) e =
      let s = from_stands client base ss p (record { trees = ts; main = main; read = x; main_is = o; built = e }) in
      let i = level_image base sizes client ss p b a few s in
      (Ok i.0, a_level_image p i.0 s i.1)
  by_building ts main x o (Err f) e = (Err (refusal_told f), level_unbuilt ts main f x o e)

  by_reading : (r : Result Trees TextFault) → ReadsAll ss r → mains_in (names_of ss) ≡ (if client then 1 else 0) → (told : Compiling) × CompilesLevel base sizes client ss told
  by_reading (Ok ts) x one = let m = some_main client ss ts x one in by_building ts m.0 x m.1 (program_of base ts m.0) refl
  by_reading (Err w) x one = (Err w, level_unread w x)

pub some_level : (base : Interface) (sizes : List ℕ) (client : Bool) (ss : List Source) → IsBase base → AreSizesBelow base sizes client → mains_in (names_of ss) ≡ (if client then 1 else 0) → bytes_in ss ≤ MAX_BYTES
    → (told : Compiling) × CompilesLevel base sizes client ss told
some_level base sizes client ss b a one few = by_reading base sizes client ss b a few (some_readings ss).0 (some_readings ss).1 one

-- ---- and one at most

abbrev a_program : ClientProgram → Result ClientProgram Refusal
a_program p = Ok p

abbrev no_program : Refusal → Result ClientProgram Refusal
no_program f = Err f

one_main : (ts us : Trees) (m k : MainFile) → ts ≡ us → ts.mains ≡ m ∷ [] → us.mains ≡ k ∷ [] → m ≡ k
one_main ts us m k e o u = let h : m ∷ [] ≡ k ∷ [] = sym o ∙ ap (λ (ks : Trees). ks.mains) e ∙ u in cc

same_main : (client : Bool) (ts us : Trees) (m k : MainFile) → ts ≡ us → IsMainOf client ts m → IsMainOf client us k → m ≡ k
same_main true ts us m k e o u = one_main ts us m k e o u
same_main false ts us m k e o u = o ∙ sym u

same_program : (client : Bool) (base : Interface) (ss : List Source) (ts us : Trees) (m k : MainFile) (a b : Result ClientProgram Refusal) → ReadsAll ss (Ok ts) → ReadsAll ss (Ok us)
    → IsMainOf client ts m → IsMainOf client us k → program_of base ts m ≡ a → program_of base us k ≡ b → a ≡ b
same_program client base ss ts us m k a b x y o u e h =
    let same = same_trees ss ts us x y in
    sym e ∙ ap (λ (ks : Trees). program_of base ks m) same ∙ ap (λ (main : MainFile). program_of base us main) (same_main client ts us m k same o u) ∙ h

refused_same : (f g : Refusal) → no_program f ≡ no_program g → f ≡ g
refused_same f g e = cc

program_same : (p q : ClientProgram) → a_program p ≡ a_program q → p ≡ q
program_same p q e = cc

programs_apart : {A : Type 0} (p : ClientProgram) (f : Refusal) → a_program p ≡ no_program f → A
programs_apart p f e = cc

image_same : (o : Option (List ℕ)) (i j : List ℕ) → o ≡ Some i → o ≡ Some j → i ≡ j
image_same o i j e f = let h : Some i ≡ Some j = sym e ∙ f in cc

-- the trees of a level's texts and what is in the way of them, or the program
both : (client : Bool) (base : Interface) (ss : List Source) (p : ClientProgram) (ts : Trees) (m : MainFile) (r : Result ClientProgram Refusal) → StandForLevel client base ss p → ReadsAll ss (Ok ts)
    → IsMainOf client ts m → program_of base ts m ≡ r → a_program p ≡ r
both client base ss p ts m r s x o e =
    let t = to_stands client base ss p s in
    same_program client base ss t.trees ts t.main m (Ok p) r t.read x t.main_is o t.built e

pub one_level : (base : Interface) (sizes : List ℕ) (client : Bool) (ss : List Source) (a b : Compiling) → CompilesLevel base sizes client ss a → CompilesLevel base sizes client ss b → a ≡ b
one_level base sizes client ss _ _ (level_unread v x) (level_unread w y) = ap compiling_failed (same_unread ss v w x y)
one_level base sizes client ss _ _ (level_unread v x) (level_unbuilt us k g y o u) = read_or_not ss us v y x
one_level base sizes client ss _ _ (level_unread v x) (a_level_image p i s e) = let t = to_stands client base ss p s in read_or_not ss t.trees v t.read x
one_level base sizes client ss _ _ (level_unbuilt ts m f x n t) (level_unread w y) = read_or_not ss ts w x y
one_level base sizes client ss _ _ (level_unbuilt ts m f x n t) (level_unbuilt us k g y o u) =
    ap (λ (z : Refusal). compiling_failed (refusal_told z)) (refused_same f g (same_program client base ss ts us m k (Err f) (Err g) x y n o t u))
one_level base sizes client ss _ _ (level_unbuilt ts m f x n t) (a_level_image p i s e) = programs_apart p f (both client base ss p ts m (Err f) s x n t)
one_level base sizes client ss _ _ (a_level_image p i s e) (level_unread w y) = let t = to_stands client base ss p s in read_or_not ss t.trees w t.read y
one_level base sizes client ss _ _ (a_level_image p i s e) (level_unbuilt us k g y o u) = programs_apart p g (both client base ss p us k (Err g) s y o u)
one_level base sizes client ss _ _ (a_level_image p i s e) (a_level_image q j t h) =
    let u = to_stands client base ss q t in
    let same = program_same p q (both client base ss p u.trees u.main (Ok q) s u.read u.main_is u.built) in
    ap (λ (z : List ℕ). Ok z) (image_same (tower_image (record { sizes = sizes; program = q; client = client })) i j
    (subst (λ (z : ClientProgram). tower_image (record { sizes = sizes; program = z; client = client }) ≡ Some i) same e) h)

-- ---- what the code answers

-- the texts can't be read
pub level_none_read : (base : Interface) (sizes : List ℕ) (client : Bool) (ss : List Source) (r : CompileFault) → Says {A = Trees} (ReadsAll ss) (Err r) → Says {A = List ℕ} (CompilesLevel base sizes client ss) (Err r)
level_none_read base sizes client ss (faults.Text w) x = level_unread w x
level_none_read base sizes client ss faults.NoMemory x = tt

-- they stand for no program
pub level_none_built : (base : Interface) (sizes : List ℕ) (client : Bool) (ss : List Source) (ts : Trees) (main : MainFile) (f : Refused) (r : CompileFault) → Says (ReadsAll ss) (Ok ts) → IsMainOf client ts main
    → Answers (program_of base ts main) (Err f) → Tells (building_told f) r → Says {A = List ℕ} (CompilesLevel base sizes client ss) (Err r)
level_none_built base sizes client ss ts main f (faults.Text w) x o a e =
    let j = refusal_joins (program_of base ts main) f w a e in
    subst (λ (v : TextFault). CompilesLevel base sizes client ss (Err v)) j.2 (level_unbuilt ts main j.0 x o j.1)
level_none_built base sizes client ss ts main f faults.NoMemory x o a e = tt

module _ (base : Interface) (sizes : List ℕ) (client : Bool) (ss : List Source) (ts : Trees) (main : MainFile) (p : ClientProgram)
    (x : Says (ReadsAll ss) (Ok ts)) (o : IsMainOf client ts main) (a : Answers (program_of base ts main) (Ok p)) where
  abbrev stands : Stands client base ss p
  stands = record { trees = ts; main = main; read = x; main_is = o; built = a }

  -- they stand for a program, whose tower image is written
  pub level_written : (image : List ℕ) → tower_image (record { sizes = sizes; program = p; client = client }) ≡ Some image → Says (CompilesLevel base sizes client ss) (Ok image)
  level_written image e = a_level_image p image (from_stands client base ss p stands) e

  -- which has room for it
  pub program_small : IsBase base → bytes_in ss ≤ MAX_BYTES → IsWithinLimits p
  program_small b few = level_within client base ss p b few stands

  -- and for the levels below it
  pub program_fits : AreSizesBelow base sizes client → FitsTower (record { sizes = sizes; program = p; client = client })
  program_fits s = level_fits sizes client base ss p s stands
