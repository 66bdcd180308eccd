-- Compiling a client's texts comes to one thing, and the code to that.
use Rattle.std.proofs.Common.{◌≡◌, ℕ, ◌≤◌, List, [], ◌∷◌, length, get_or, Option, Some, Result, Ok, Err, refl, sym, ap, subst, ◌∙◌}
use Rattle.som_model.specs.declared.limits.TheConstants.{MAX_BYTES}
use Rattle.som_model.specs.declared.program.ClientProgram.{ClientProgram}
use Rattle.som_model.specs.declared.program.Interface.{Interface}
use Rattle.som_model.specs.Images.{client_image}
use Rattle.som_ast.specs.declared.body.MainFile.{MainFile}
use Rattle.som_cliimage.specs.Limits.{IsWithinLimits}
use Rattle.som_cliimage.proofs.Encoded.{image_there}
use Rattle.som_sema_drafts.specs.declared.types.Refused.{Refused}
use Rattle.som_elab.specs.Blocks.{Answers, Refusal}
use Rattle.som_sources.specs.declared.fault.TextFault.{TextFault}
use Rattle.som_sources.specs.declared.fault.CompileFault.{CompileFault}
use Rattle.som_sources.specs.declared.fault.CompileFault.TheVariants as faults
use Rattle.som_sources.specs.declared.source.Source.{Source}
use Rattle.som_sources.specs.declared.trees.Trees.{Trees}
use Rattle.som_sources.specs.Reading.{ReadsAll, Says, Tells}
use Rattle.som_sources.specs.Sources.{bytes_in, mains_in, names_of}
use Rattle.som_sources.proofs.MainLaws.{one_main_read}
use Rattle.som_sources.proofs.ReadLaws.{some_readings, same_trees, same_unread, read_or_not}
use Rattle.som_compile.specs.Compiling.{IsBase, StandForClient, CompilesClient, client_unread, client_unbuilt, a_client_image, building_told, refusal_told, program_of}
use Rattle.som_compile.proofs.CompileLaws.{Compiling, compiling_failed, refusal_joins}
use Rattle.som_compile.proofs.Standing.{program_conforms, program_fits}

-- ---- there is an answer

pub only_one : {A : Type 0} (xs : List A) → length xs ≡ 1 → (x : A) × (xs ≡ x ∷ [])
only_one [] e = cc
only_one (x ∷ []) e = (x, refl)
only_one (x ∷ y ∷ xs) e = absurd (let z = e in cc)

-- a client program that texts stand for has an image
pub client_stands_image : (base : Interface) (ss : List Source) (p : ClientProgram) → IsBase base → bytes_in ss ≤ MAX_BYTES → StandForClient base ss p → (image : List ℕ) × (client_image p ≡ Some image)
client_stands_image base ss p b few s =
    let i = image_there p (program_conforms base ss p b s) (program_fits base ss p b few s) in
    (i.0, i.1)

module _ (base : Interface) (ss : List Source) (b : IsBase base) (few : bytes_in ss ≤ MAX_BYTES) where
  by_building : (ts : Trees) (main : MainFile) → ReadsAll ss (Ok ts) → ts.mains ≡ main ∷ [] → (r : Result ClientProgram Refusal) → program_of base ts main ≡ r → (told : Compiling) × CompilesClient base ss told
  by_building ts main x o (Ok p) e =
      let s : StandForClient base ss p = record { trees = ts; main = main; read = x; one_main = o; built = e } in
      let i = client_stands_image base ss p b few s in
      (Ok i.0, a_client_image p i.0 s i.1)
  by_building ts main x o (Err f) e = (Err (refusal_told f), client_unbuilt ts main f x o e)

  by_reading : (r : Result Trees TextFault) → ReadsAll ss r → mains_in (names_of ss) ≡ 1 → (told : Compiling) × CompilesClient base ss told
  by_reading (Ok ts) x one =
      let m = only_one ts.mains (one_main_read ss ts x one) in
      by_building ts m.0 x m.1 (program_of base ts m.0) refl
  by_reading (Err w) x one = (Err w, client_unread w x)

pub some_client : (base : Interface) (ss : List Source) → IsBase base → mains_in (names_of ss) ≡ 1 → bytes_in ss ≤ MAX_BYTES → (told : Compiling) × CompilesClient base ss told
some_client base ss b one few = by_reading base ss b few (some_readings ss).0 (some_readings ss).1 one

-- ---- and one at most

abbrev a_program : ClientProgram → Result ClientProgram Refusal
a_program p = Ok p

abbrev no_program : Refusal → Result ClientProgram Refusal
no_program f = Err f

same_main : (ts us : Trees) (m k : MainFile) → ts ≡ us → ts.mains ≡ m ∷ [] → us.mains ≡ k ∷ [] → m ≡ k
same_main ts us m k e o u = let h : m ∷ [] ≡ k ∷ [] = sym o ∙ ap (λ (ks : Trees). ks.mains) e ∙ u in cc

same_program : (base : Interface) (ss : List Source) (ts us : Trees) (m k : MainFile) (a b : Result ClientProgram Refusal) → ReadsAll ss (Ok ts) → ReadsAll ss (Ok us)
    → ts.mains ≡ m ∷ [] → us.mains ≡ k ∷ [] → program_of base ts m ≡ a → program_of base us k ≡ b → a ≡ b
same_program base ss ts us m k a b x y o u e h =
    let same = same_trees ss ts us x y in
    sym e ∙ ap (λ (ks : Trees). program_of base ks m) same ∙ ap (λ (main : MainFile). program_of base us main) (same_main ts us m k same o u) ∙ h

refused_same : (f g : Refusal) → no_program f ≡ no_program g → f ≡ g
refused_same f g e = cc

program_same : (p q : ClientProgram) → a_program p ≡ a_program q → p ≡ q
program_same p q e = cc

programs_apart : {A : Type 0} (p : ClientProgram) (f : Refusal) → a_program p ≡ no_program f → A
programs_apart p f e = cc

image_same : (o : Option (List ℕ)) (i j : List ℕ) → o ≡ Some i → o ≡ Some j → i ≡ j
image_same o i j e f = let h : Some i ≡ Some j = sym e ∙ f in cc

pub one_client : (base : Interface) (ss : List Source) (a b : Compiling) → CompilesClient base ss a → CompilesClient base ss b → a ≡ b
one_client base ss _ _ (client_unread v x) (client_unread w y) = ap compiling_failed (same_unread ss v w x y)
one_client base ss _ _ (client_unread v x) (client_unbuilt us k g y o u) = read_or_not ss us v y x
one_client base ss _ _ (client_unread v x) (a_client_image p i s e) = read_or_not ss s.trees v s.read x
one_client base ss _ _ (client_unbuilt ts m f x n t) (client_unread w y) = read_or_not ss ts w x y
one_client base ss _ _ (client_unbuilt ts m f x n t) (client_unbuilt us k g y o u) =
    ap (λ (z : Refusal). compiling_failed (refusal_told z)) (refused_same f g (same_program base ss ts us m k (Err f) (Err g) x y n o t u))
one_client base ss _ _ (client_unbuilt ts m f x n t) (a_client_image p i s e) =
    programs_apart p f (same_program base ss s.trees ts s.main m (Ok p) (Err f) s.read x s.one_main n s.built t)
one_client base ss _ _ (a_client_image p i s e) (client_unread w y) = read_or_not ss s.trees w s.read y
one_client base ss _ _ (a_client_image p i s e) (client_unbuilt us k g y o u) =
    programs_apart p g (same_program base ss s.trees us s.main k (Ok p) (Err g) s.read y s.one_main o s.built u)
one_client base ss _ _ (a_client_image p i s e) (a_client_image q j t h) =
    let same = program_same p q (same_program base ss s.trees t.trees s.main t.main (Ok p) (Ok q) s.read t.read s.one_main t.one_main s.built t.built) in
    ap (λ (z : List ℕ). Ok z) (image_same (client_image q) i j (subst (λ (z : ClientProgram). client_image z ≡ Some i) same e) h)

-- ---- what the code answers

-- the texts can't be read
pub client_none_read : (base : Interface) (ss : List Source) (r : CompileFault) → Says {A = Trees} (ReadsAll ss) (Err r) → Says {A = List ℕ} (CompilesClient base ss) (Err r)
client_none_read base ss (faults.Text w) x = client_unread w x
client_none_read base ss faults.NoMemory x = tt

-- they stand for no client program
pub client_none_built : (base : Interface) (ss : List Source) (ts : Trees) (main : MainFile) (f : Refused) (r : CompileFault) → Says (ReadsAll ss) (Ok ts) → ts.mains ≡ main ∷ []
    → Answers (program_of base ts main) (Err f) → Tells (building_told f) r → Says {A = List ℕ} (CompilesClient base ss) (Err r)
client_none_built base ss ts main f (faults.Text w) x o a e =
    let j = refusal_joins (program_of base ts main) f w a e in
    subst (λ (v : TextFault). CompilesClient base ss (Err v)) j.2 (client_unbuilt ts main j.0 x o j.1)
client_none_built base ss ts main f faults.NoMemory x o a e = tt

-- they stand for a client program, whose image is written
pub client_written : (base : Interface) (ss : List Source) (ts : Trees) (main : MainFile) (p : ClientProgram) (image : List ℕ) → Says (ReadsAll ss) (Ok ts) → ts.mains ≡ main ∷ []
    → Answers (program_of base ts main) (Ok p) → client_image p ≡ Some image → Says (CompilesClient base ss) (Ok image)
client_written base ss ts main p image x o a e = a_client_image p image (record { trees = ts; main = main; read = x; one_main = o; built = a }) e

-- and it has room for it
pub client_fits : (base : Interface) (ss : List Source) (ts : Trees) (main : MainFile) (p : ClientProgram) → IsBase base → bytes_in ss ≤ MAX_BYTES → Says (ReadsAll ss) (Ok ts) → ts.mains ≡ main ∷ []
    → Answers (program_of base ts main) (Ok p) → IsWithinLimits p
client_fits base ss ts main p b few x o a = program_fits base ss p b few (record { trees = ts; main = main; read = x; one_main = o; built = a })

-- the item at the first place is the only one
pub only_main : (xs : List MainFile) (x : MainFile) → length xs ≡ 1 → x ≡ get_or xs 0 x → xs ≡ x ∷ []
only_main [] x e at = cc
only_main (y ∷ []) x e at = ap (λ (z : MainFile). z ∷ []) (sym at)
only_main (y ∷ z ∷ xs) x e at = absurd (let l = e in cc)
