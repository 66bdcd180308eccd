-- What is known of levels whose images were read and looked at.
use Rattle.std.proofs.Common.{◌≡◌, ℕ, zero, suc, ◌+◌, ◌≤◌, ◌==◌, Bool, true, false, not, if◌then◌else◌, List, [], ◌∷◌, length, drop, Option, Some, None, Result, Ok, Err, refl, ap, subst, arith}
use Rattle.std.proofs.lemmas.Bool.{eqb-true}
use Rattle.som_model.specs.declared.program.Release.{Release}
use Rattle.som_model.specs.Conforming.{ProgramOk, program_breach, release_breach}
use Rattle.som_model.specs.Rules.{RuleBreach}
use Rattle.som_model.specs.Steps.{◌>>=◌}
use Rattle.som_model.proofs.StepLaws.{same_ok, went}
use Rattle.som_order.specs.Names.{name_at}
use Rattle.som_image_fields.specs.declared.fault.ImageFault.{ImageFault}
use Rattle.som_image_fields.specs.declared.fault.ImageFault.TheVariants as faults
use Rattle.som_libimage.specs.Limits as releases
use Rattle.som_libimage.proofs.Decoded as libraries
use Rattle.som_cliimage.specs.Limits as programs
use Rattle.som_towerimage.specs.declared.level.Level.{Level}
use Rattle.som_towerimage.specs.Reading.{level_at}
use Rattle.som_towerimage.specs.Spelling.{FitsTower}
use Rattle.som_towerimage.proofs.Decoded as towers
use Rattle.som_verify.proofs.Conforming.{program_conforms, release_conforms}
use Rattle.som_cmd_steps.specs.EachImage.{each_passes}
use Rattle.som_cmd_steps.specs.ImageSteps.{are_bytes, kept_or, library_in, read_if, read_or, release_in, rules_kept}
use Rattle.som_cmd_steps.proofs.ByteLaws.{bytes_below, library_bytes}
use Rattle.som_cmd_levels.specs.declared.levels.LevelsBelow.{LevelsBelow}
use Rattle.som_cmd_levels.specs.LevelImages.{in_place, is_kind, level_in, level_read, of_kind, placed_in}
use Rattle.som_cmd_levels.specs.Levels.{AllConform, AreLevelsOf, AreUppers, IsLevelAt, LevelsConform, level_rules_kept, levels_in, levels_rules_kept, uppers_in}

-- ---- one image

read_ok : {A : Type 0} (name : List ℕ) (read : Result A ImageFault) (x : A) → read_or name read ≡ Ok x → read ≡ Ok x
read_ok name (Ok y) x e = ap (λ z. Ok z) (same_ok y x e)
read_ok name (Err fault) x e = absurd (let z = e in cc)

kept_ok : (name : List ℕ) (o : Option RuleBreach) (u : Unit {0}) → kept_or name o ≡ Ok u → o ≡ None
kept_ok name None u e = refl
kept_ok name (Some b) u e = absurd (let z = e in cc)

bytes_read : {A : Type 0} (x : A) (read : Result A ImageFault) (b : Bool) → read_if b read ≡ Ok x → (b ≡ true) × (read ≡ Ok x)
bytes_read x read true e = (refl, e)
bytes_read x read false e = absurd (let z = e in cc)

-- a level that numbers are read as fits a tower, and an image has room for it
level_known : (bytes : List ℕ) (l : Level) → level_in bytes ≡ Ok l → FitsTower l × programs.IsWithinLimits l.program
level_known bytes l e =
    let t = bytes_read l (level_at bytes) (are_bytes bytes) e in
    let all = bytes_below bytes t.0 in
    (towers.fits bytes all (Ok l) t.1, towers.within bytes all (Ok l) t.1)

kind_by : (b : Bool) (l m : Level) → (if b then Ok l else Err (faults.Tag 6)) ≡ Ok m → (b ≡ true) × (l ≡ m)
kind_by true l m e = (refl, same_ok l m e)
kind_by false l m e = absurd (let z = e in cc)

not_true : (b : Bool) → not b ≡ true → b ≡ false
not_true true e = cc
not_true false e = refl

kind_is : (client : Bool) (l : Level) → is_kind client l ≡ true → l.client ≡ client
kind_is true l e = e
kind_is false l e = not_true l.client e

kind_known : (client : Bool) (l m : Level) → of_kind client l ≡ Ok m → (l.client ≡ client) × (l ≡ m)
kind_known client l m e = let k = kind_by (is_kind client l) l m e in (kind_is client l k.0, k.1)

place_by : (b client : Bool) (l m : Level) → (if b then of_kind client l else Err (faults.Number 5)) ≡ Ok m → (b ≡ true) × (of_kind client l ≡ Ok m)
place_by true client l m e = (refl, e)
place_by false client l m e = absurd (let z = e in cc)

-- one that is read at its place stands there
level_at_place : (below : ℕ) (client : Bool) (name bytes : List ℕ) (l : Level) → level_read below client name bytes ≡ Ok l → IsLevelAt below client l
level_at_place below client name bytes l e =
    let w = went (level_in bytes) (in_place below client) l (read_ok name (placed_in below client bytes) l e) in
    let p = place_by (length w.value.sizes == below) client w.value l w.further in
    let k = kind_known client w.value l p.1 in
    let known = level_known bytes w.value w.first in
    let at : IsLevelAt below client w.value = record { fits = known.0; within = known.1; levels = eqb-true (length w.value.sizes) below p.0; kind = k.0 } in
    subst (IsLevelAt below client) k.1 at

-- ---- the libraries above the first

record Uppers (below count : ℕ) (ls : List Level) : Type 0 where
  at : AreUppers below ls
  many : length ls ≡ count

no_uppers : (below : ℕ) → Uppers below 0 []
no_uppers below = record { at = (λ i l e. absurd (let z = e in cc)); many = refl }

sum_zero : (n : ℕ) → n ≡ n + 0
sum_zero n = omega arith

sum_suc : (n i : ℕ) → suc n + i ≡ n + suc i
sum_suc n i = omega arith

one_upper : (below : ℕ) (l : Level) (ls : List Level) → IsLevelAt below false l → AreUppers (suc below) ls → AreUppers below (l ∷ ls)
one_upper below l ls at more zero x e =
    let same : l ≡ x = (let z = e in cc) in
    subst (λ (n : ℕ). IsLevelAt n false x) (sum_zero below) (subst (IsLevelAt below false) same at)
one_upper below l ls at more (suc i) x e = subst (λ (n : ℕ). IsLevelAt n false x) (sum_suc below i) (more i x e)

uppers_known : (below : ℕ) (names images : List (List ℕ)) (ls : List Level) → length images ≡ length names → uppers_in below names images ≡ Ok ls → Uppers below (length names) ls
uppers_known below [] images ls same e = subst (Uppers below 0) (same_ok [] ls e) (no_uppers below)
uppers_known below (n ∷ ns) [] ls same e = absurd (omega (arith, same))
uppers_known below (n ∷ ns) (b ∷ bs) ls same e =
    let w = went (level_read below false n b) (λ (l : Level). uppers_in (suc below) ns bs >>= λ more. Ok (l ∷ more)) ls e in
    let v = went (uppers_in (suc below) ns bs) (λ (more : List Level). Ok (w.value ∷ more)) ls w.further in
    let more = uppers_known (suc below) ns bs v.value (omega (arith, same)) v.first in
    subst (Uppers below (suc (length ns))) (same_ok (w.value ∷ v.value) ls v.further)
    (record { at = one_upper below w.value v.value (level_at_place below false n b w.value w.first) more.at; many = ap suc more.many })

-- ---- all libraries

drop_long : {A : Type 0} (xs ys : List A) → length xs ≡ length ys → length (drop 1 xs) ≡ length (drop 1 ys)
drop_long [] [] e = refl
drop_long [] (y ∷ ys) e = absurd (omega (arith, e))
drop_long (x ∷ xs) [] e = absurd (omega (arith, e))
drop_long (x ∷ xs) (y ∷ ys) e = omega (arith, e)

one_dropped : {A : Type 0} (xs : List A) → 1 ≤ length xs → length (drop 1 xs) + 1 ≡ length xs
one_dropped [] le = absurd (omega (arith, le))
one_dropped (x ∷ xs) le = omega arith

release_known : (name bytes : List ℕ) (r : Release) → release_in name bytes ≡ Ok r → releases.IsWithinLimits r
release_known name bytes r e =
    let b = library_bytes bytes r (read_ok name (library_in bytes) r e) in
    libraries.within bytes b.0 (Ok r) b.1

abbrev levels_of : Release → List Level → LevelsBelow
levels_of r ls = record { base = r; uppers = ls }

pub levels_known : (names images : List (List ℕ)) (below : LevelsBelow) → length images ≡ length names → 1 ≤ length names → levels_in names images ≡ Ok below → AreLevelsOf names below
levels_known names images below same some e =
    let w = went (release_in (name_at names 0) (name_at images 0)) (λ (r : Release). uppers_in 1 (drop 1 names) (drop 1 images) >>= λ ls. Ok (levels_of r ls)) below e in
    let v = went (uppers_in 1 (drop 1 names) (drop 1 images)) (λ (ls : List Level). Ok (levels_of w.value ls)) below w.further in
    let u = uppers_known 1 (drop 1 names) (drop 1 images) v.value (drop_long images names same) v.first in
    let many = u.many in
    let all = one_dropped names some in
    subst (AreLevelsOf names) (same_ok (levels_of w.value v.value) below v.further)
    (record { base = release_known (name_at names 0) (name_at images 0) w.value w.first; uppers = u.at; many = omega (arith, many, all) })

-- ---- their rules

uppers_conform : (names : List (List ℕ)) (ls : List Level) (u : Unit {0}) → length ls ≡ length names → each_passes level_rules_kept names ls ≡ Ok u → AllConform ls
uppers_conform [] [] u same e i l is = absurd (let z = is in cc)
uppers_conform [] (x ∷ ls) u same e i l is = absurd (omega (arith, same))
uppers_conform (n ∷ ns) [] u same e i l is = absurd (let z = is in cc)
uppers_conform (n ∷ ns) (x ∷ ls) u same e zero l is =
    let w = went (level_rules_kept n x) (λ (passed : Unit {0}). each_passes level_rules_kept ns ls) u e in
    let at : x ≡ l = (let z = is in cc) in
    subst (λ (y : Level). ProgramOk y.program) at (program_conforms x.program (kept_ok n (program_breach x.program) w.value w.first))
uppers_conform (n ∷ ns) (x ∷ ls) u same e (suc i) l is =
    let w = went (level_rules_kept n x) (λ (passed : Unit {0}). each_passes level_rules_kept ns ls) u e in
    uppers_conform ns ls u (omega (arith, same)) w.further i l is

pub rules_known : (names : List (List ℕ)) (below : LevelsBelow) (u : Unit {0}) → length below.uppers + 1 ≡ length names → levels_rules_kept names below ≡ Ok u → LevelsConform below
rules_known names below u many e =
    let w = went (rules_kept (name_at names 0) below.base) (λ (kept : Unit {0}). each_passes level_rules_kept (drop 1 names) below.uppers) u e in
    let all = one_dropped names (omega (arith, many)) in
    record {
      base = release_conforms below.base (kept_ok (name_at names 0) (release_breach below.base) w.value w.first);
      uppers = uppers_conform (drop 1 names) below.uppers u (omega (arith, many, all)) w.further;
    }
