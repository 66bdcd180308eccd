-- Compiling a library's texts comes to one thing, and the code to that.
use Rattle.std.proofs.Common.{◌≡◌, ℕ, ◌≤◌, List, Option, Some, Result, Ok, Err, refl, sym, ap, subst, ◌∙◌}
use Rattle.som_model.specs.declared.limits.TheConstants.{MAX_BYTES}
use Rattle.som_model.specs.declared.program.Release.{Release}
use Rattle.som_model.specs.Images.{library_image}
use Rattle.som_libimage.specs.Limits.{IsWithinLimits}
use Rattle.som_libimage.proofs.Encoded.{image_there}
use Rattle.som_verify_classes.specs.Told.{told}
use Rattle.som_sema_drafts.specs.declared.types.Refused.{Refused}
use Rattle.som_sema_drafts.specs.declared.types.Refused.TheVariants as refusals
use Rattle.som_elab.specs.Blocks.{Answers, Limit, Refusal, Rule}
use Rattle.som_sources.specs.declared.fault.TextFault.{TextFault}
use Rattle.som_sources.specs.declared.fault.TextFault.TheVariants as texts
use Rattle.som_sources.specs.declared.fault.CompileFault.{CompileFault}
use Rattle.som_sources.specs.declared.fault.CompileFault.TheVariants as faults
use Rattle.som_sources.specs.declared.source.Source.{Source}
use Rattle.som_sources.specs.declared.trees.Trees.{Trees}
use Rattle.som_sources.specs.Reading.{ReadsAll, Says, Tells}
use Rattle.som_sources.specs.Sources.{bytes_in}
use Rattle.som_sources.proofs.ReadLaws.{some_readings, same_trees, same_unread, read_or_not}
use Rattle.som_compile.specs.Compiling.{StandFor, Compiles, unread, unbuilt, an_image, building_told, refusal_told, release_of}
use Rattle.som_compile.proofs.Standing.{release_conforms, release_fits}

abbrev pub Compiling : Type 0
Compiling = Result (List ℕ) TextFault

abbrev pub compiling_failed : TextFault → Compiling
compiling_failed w = Err w

-- ---- there is an answer

-- a release that texts stand for has an image
pub stands_image : (ss : List Source) (r : Release) → bytes_in ss ≤ MAX_BYTES → StandFor ss r → (image : List ℕ) × (library_image r ≡ Some image)
stands_image ss r few s =
    let i = image_there r (release_conforms ss r s) (release_fits ss r few s) in
    (i.0, i.1)

by_building : (ss : List Source) (ts : Trees) → bytes_in ss ≤ MAX_BYTES → ReadsAll ss (Ok ts) → (b : Result Release Refusal) → release_of ts ≡ b → (told : Compiling) × Compiles ss told
by_building ss ts few x (Ok r) e =
    let s : StandFor ss r = record { trees = ts; read = x; built = e } in
    let i = stands_image ss r few s in
    (Ok i.0, an_image r i.0 s i.1)
by_building ss ts few x (Err f) e = (Err (refusal_told f), unbuilt ts f x e)

by_reading : (ss : List Source) → bytes_in ss ≤ MAX_BYTES → (r : Result Trees TextFault) → ReadsAll ss r → (told : Compiling) × Compiles ss told
by_reading ss few (Ok ts) x = by_building ss ts few x (release_of ts) refl
by_reading ss few (Err w) x = (Err w, unread w x)

pub some_compiling : (ss : List Source) → bytes_in ss ≤ MAX_BYTES → (told : Compiling) × Compiles ss told
some_compiling ss few = by_reading ss few (some_readings ss).0 (some_readings ss).1

-- ---- and one at most

abbrev a_release : Release → Result Release Refusal
a_release r = Ok r

abbrev no_release : Refusal → Result Release Refusal
no_release f = Err f

same_built : (ss : List Source) (ts us : Trees) (a b : Result Release Refusal) → ReadsAll ss (Ok ts) → ReadsAll ss (Ok us) → release_of ts ≡ a → release_of us ≡ b → a ≡ b
same_built ss ts us a b x y e h = sym e ∙ ap (λ (ks : Trees). release_of ks) (same_trees ss ts us x y) ∙ h

same_refused : (f g : Refusal) → no_release f ≡ no_release g → f ≡ g
same_refused f g e = cc

same_release : (r q : Release) → a_release r ≡ a_release q → r ≡ q
same_release r q e = cc

built_apart : {A : Type 0} (r : Release) (f : Refusal) → a_release r ≡ no_release f → A
built_apart r f e = cc

one_image : (o : Option (List ℕ)) (i j : List ℕ) → o ≡ Some i → o ≡ Some j → i ≡ j
one_image o i j e f = let h : Some i ≡ Some j = sym e ∙ f in cc

pub one_compiling : (ss : List Source) (a b : Compiling) → Compiles ss a → Compiles ss b → a ≡ b
one_compiling ss _ _ (unread v x) (unread w y) = ap compiling_failed (same_unread ss v w x y)
one_compiling ss _ _ (unread v x) (unbuilt us g y u) = read_or_not ss us v y x
one_compiling ss _ _ (unread v x) (an_image r i s e) = read_or_not ss s.trees v s.read x
one_compiling ss _ _ (unbuilt ts f x t) (unread w y) = read_or_not ss ts w x y
one_compiling ss _ _ (unbuilt ts f x t) (unbuilt us g y u) =
    ap (λ (k : Refusal). compiling_failed (refusal_told k)) (same_refused f g (same_built ss ts us (Err f) (Err g) x y t u))
one_compiling ss _ _ (unbuilt ts f x t) (an_image r i s e) = built_apart r f (same_built ss s.trees ts (Ok r) (Err f) s.read x s.built t)
one_compiling ss _ _ (an_image r i s e) (unread w y) = read_or_not ss s.trees w s.read y
one_compiling ss _ _ (an_image r i s e) (unbuilt us g y u) = built_apart r g (same_built ss s.trees us (Ok r) (Err g) s.read y s.built u)
one_compiling ss _ _ (an_image r i s e) (an_image q j t h) =
    let same = same_release r q (same_built ss s.trees t.trees (Ok r) (Ok q) s.read t.read s.built t.built) in
    ap (λ (z : List ℕ). Ok z) (one_image (library_image q) i j (subst (λ (z : Release). library_image z ≡ Some i) same e) h)

-- ---- what the code answers

-- what is in the way, where something is told of it
pub refusal_joins : {A : Type 0} (comes : Result A Refusal) (f : Refused) (w : TextFault) → Answers comes (Err f) → building_told f ≡ Some w → (g : Refusal) × (comes ≡ Err g) × (refusal_told g ≡ w)
refusal_joins comes (refusals.Rule b) w a e = (Rule (told b), a, let h : texts.Rule b ≡ w = cc in h)
refusal_joins comes (refusals.Limit q n) w a e = (Limit (record { quantity = q; number = n }), a, let h : texts.Limit q n ≡ w = cc in h)
refusal_joins comes refusals.NoMemory w a e = cc

-- the texts can't be read
pub all_unread : (ss : List Source) (r : CompileFault) → Says {A = Trees} (ReadsAll ss) (Err r) → Says {A = List ℕ} (Compiles ss) (Err r)
all_unread ss (faults.Text w) x = unread w x
all_unread ss faults.NoMemory x = tt

-- they stand for no release
pub none_built : (ss : List Source) (ts : Trees) (f : Refused) (r : CompileFault) → Says (ReadsAll ss) (Ok ts) → Answers (release_of ts) (Err f) → Tells (building_told f) r
    → Says {A = List ℕ} (Compiles ss) (Err r)
none_built ss ts f (faults.Text w) x a e =
    let j = refusal_joins (release_of ts) f w a e in
    subst (λ (v : TextFault). Compiles ss (Err v)) j.2 (unbuilt ts j.0 x j.1)
none_built ss ts f faults.NoMemory x a e = tt

-- they stand for a release, whose image is written
pub one_written : (ss : List Source) (ts : Trees) (r : Release) (image : List ℕ) → Says (ReadsAll ss) (Ok ts) → Answers (release_of ts) (Ok r) → library_image r ≡ Some image
    → Says (Compiles ss) (Ok image)
one_written ss ts r image x a e = an_image r image (record { trees = ts; read = x; built = a }) e

-- and it has room for it
pub built_fits : (ss : List Source) (ts : Trees) (r : Release) → bytes_in ss ≤ MAX_BYTES → Says (ReadsAll ss) (Ok ts) → Answers (release_of ts) (Ok r) → IsWithinLimits r
built_fits ss ts r few x a = release_fits ss r few (record { trees = ts; read = x; built = a })
