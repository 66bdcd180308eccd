-- What is refused of images of levels.
use Rattle.std.proofs.Common.{◌≡◌, ℕ, suc, ◌≤◌, Bool, false, List, [], ◌∷◌, drop, length, Option, Some, None, Result, Ok, Err, refl, subst, inl, inr, arith}
use Rattle.som_model.specs.Conforming.{program_breach, release_breach}
use Rattle.som_model.specs.Lists.{Mem}
use Rattle.som_model.specs.Rules.{RuleBreach}
use Rattle.som_model.specs.Steps.{◌>>=◌}
use Rattle.som_model.specs.declared.program.Release.{Release}
use Rattle.som_order.specs.Names.{name_at}
use Rattle.som_image_fields.specs.declared.fault.ImageFault.{ImageFault}
use Rattle.som_libimage.specs.Libraries.{library_at}
use Rattle.som_towerimage.specs.declared.level.Level.{Level}
use Rattle.som_cmd_steps.specs.declared.stop.Refusal.{Refusal}
use Rattle.som_cmd_steps.specs.EachImage.{each_passes}
use Rattle.som_cmd_steps.specs.ImageSteps.{are_bytes, kept_or, library_in, read_or, release_in, rules_kept}
use Rattle.som_cmd_steps.proofs.FaultLaws.{library_reads}
use Rattle.som_cmd_steps.proofs.FieldFaults.{IsOfBytes, Reads, either_reads}
use Rattle.som_cmd_steps.proofs.Statuses.{Only, then_only}
use Rattle.som_cmd_levels.specs.declared.levels.LevelsBelow.{LevelsBelow}
use Rattle.som_cmd_levels.specs.LevelImages.{level_read, placed_in, upper_in, upper_read}
use Rattle.som_cmd_levels.specs.Levels.{level_rules_kept, levels_in, levels_rules_kept, uppers_in}
use Rattle.som_cmd_levels.specs.Refusals.{IsLevelRefusal, IsLevelsRefusal}
use Rattle.som_cmd_levels.proofs.TowerFaults.{placed_reads, upper_reads}

told : {A : Type 0} (IsOne : Refusal → Type 0) (steps : Result A Refusal) (r : Refusal) → Only IsOne steps → steps ≡ Err r → IsOne r
told {A} IsOne steps r only e = subst (λ (x : Result A Refusal). Only IsOne x) e only

read_only : {A : Type 0} (name : List ℕ) (read : Result A ImageFault) → Reads read → Only (IsLevelRefusal name) (read_or name read)
read_only name (Ok x) reads = tt
read_only name (Err fault) reads = inr (inl (fault, (λ e. subst IsOfBytes e reads), refl))

kept_only : (name : List ℕ) (o : Option RuleBreach) → Only (IsLevelRefusal name) (kept_or name o)
kept_only name None = tt
kept_only name (Some b) = inr (inr (b, refl))

upper_only : (name bytes : List ℕ) → Only (IsLevelRefusal name) (upper_read name bytes)
upper_only name bytes = read_only name (upper_in bytes) (upper_reads bytes)

level_only : (below : ℕ) (client : Bool) (name bytes : List ℕ) → Only (IsLevelRefusal name) (level_read below client name bytes)
level_only below client name bytes = read_only name (placed_in below client bytes) (placed_reads below client bytes)

release_only : (name bytes : List ℕ) → Only (IsLevelRefusal name) (release_in name bytes)
release_only name bytes = read_only name (library_in bytes) (either_reads (are_bytes bytes) (library_at bytes) _ (library_reads bytes) tt)

-- ---- of one of several

only_as : {A : Type 0} (IsOne IsOther : Refusal → Type 0) → ((r : Refusal) → IsOne r → IsOther r) → (steps : Result A Refusal) → Only IsOne steps → Only IsOther steps
only_as IsOne IsOther into (Ok x) one = tt
only_as IsOne IsOther into (Err r) one = into r one

among : (names : List (List ℕ)) (name : List ℕ) → Mem name names → (r : Refusal) → IsLevelRefusal name r → IsLevelsRefusal names r
among names name m r is = (name, m, is)

more : (n : List ℕ) (ns : List (List ℕ)) (r : Refusal) → IsLevelsRefusal ns r → IsLevelsRefusal (n ∷ ns) r
more n ns r is = (is.0, inr is.1, is.2)

uppers_only : (below : ℕ) (names images : List (List ℕ)) → Only (IsLevelsRefusal names) (uppers_in below names images)
uppers_only below [] images = tt
uppers_only below (n ∷ ns) [] = tt
uppers_only below (n ∷ ns) (b ∷ bs) =
    let others = only_as (IsLevelsRefusal ns) (IsLevelsRefusal (n ∷ ns)) (more n ns) (uppers_in (suc below) ns bs) (uppers_only (suc below) ns bs) in
    then_only (IsLevelsRefusal (n ∷ ns)) (level_read below false n b) (λ (l : Level). uppers_in (suc below) ns bs >>= λ ls. Ok (l ∷ ls))
    (only_as (IsLevelRefusal n) (IsLevelsRefusal (n ∷ ns)) (among (n ∷ ns) n (inl refl)) (level_read below false n b) (level_only below false n b))
    (λ l. then_only (IsLevelsRefusal (n ∷ ns)) (uppers_in (suc below) ns bs) (λ (ls : List Level). Ok (l ∷ ls)) others (λ ls. tt))

levels_only : (names images : List (List ℕ)) → 1 ≤ length names → Only (IsLevelsRefusal names) (levels_in names images)
levels_only [] images some = absurd (omega (arith, some))
levels_only (n ∷ ns) images some =
    let others = only_as (IsLevelsRefusal ns) (IsLevelsRefusal (n ∷ ns)) (more n ns) (uppers_in 1 ns (drop 1 images)) (uppers_only 1 ns (drop 1 images)) in
    let base : Release → List Level → Result LevelsBelow Refusal = λ r ls. Ok (record { base = r; uppers = ls }) in
    then_only (IsLevelsRefusal (n ∷ ns)) (release_in n (name_at images 0)) (λ (r : Release). uppers_in 1 ns (drop 1 images) >>= base r)
    (only_as (IsLevelRefusal n) (IsLevelsRefusal (n ∷ ns)) (among (n ∷ ns) n (inl refl)) (release_in n (name_at images 0)) (release_only n (name_at images 0)))
    (λ r. then_only (IsLevelsRefusal (n ∷ ns)) (uppers_in 1 ns (drop 1 images)) (base r) others (λ ls. tt))

each_only : (names : List (List ℕ)) (ls : List Level) → Only (IsLevelsRefusal names) (each_passes level_rules_kept names ls)
each_only [] ls = tt
each_only (n ∷ ns) [] = tt
each_only (n ∷ ns) (l ∷ ls) =
    let others = only_as (IsLevelsRefusal ns) (IsLevelsRefusal (n ∷ ns)) (more n ns) (each_passes level_rules_kept ns ls) (each_only ns ls) in
    then_only (IsLevelsRefusal (n ∷ ns)) (level_rules_kept n l) (λ (u : Unit {0}). each_passes level_rules_kept ns ls)
    (only_as (IsLevelRefusal n) (IsLevelsRefusal (n ∷ ns)) (among (n ∷ ns) n (inl refl)) (level_rules_kept n l) (kept_only n (program_breach l.program)))
    (λ u. others)

rules_only : (names : List (List ℕ)) (below : LevelsBelow) → 1 ≤ length names → Only (IsLevelsRefusal names) (levels_rules_kept names below)
rules_only [] below some = absurd (omega (arith, some))
rules_only (n ∷ ns) below some =
    let others = only_as (IsLevelsRefusal ns) (IsLevelsRefusal (n ∷ ns)) (more n ns) (each_passes level_rules_kept ns below.uppers) (each_only ns below.uppers) in
    then_only (IsLevelsRefusal (n ∷ ns)) (rules_kept n below.base) (λ (u : Unit {0}). each_passes level_rules_kept ns below.uppers)
    (only_as (IsLevelRefusal n) (IsLevelsRefusal (n ∷ ns)) (among (n ∷ ns) n (inl refl)) (rules_kept n below.base) (kept_only n (release_breach below.base)))
    (λ u. others)

-- ---- as it is told

pub upper_told : (name bytes : List ℕ) (r : Refusal) → upper_read name bytes ≡ Err r → IsLevelRefusal name r
upper_told name bytes r e = told (IsLevelRefusal name) (upper_read name bytes) r (upper_only name bytes) e

pub level_told : (below : ℕ) (client : Bool) (name bytes : List ℕ) (r : Refusal) → level_read below client name bytes ≡ Err r → IsLevelRefusal name r
level_told below client name bytes r e = told (IsLevelRefusal name) (level_read below client name bytes) r (level_only below client name bytes) e

pub levels_told : (names images : List (List ℕ)) (r : Refusal) → 1 ≤ length names → levels_in names images ≡ Err r → IsLevelsRefusal names r
levels_told names images r some e = told (IsLevelsRefusal names) (levels_in names images) r (levels_only names images some) e

pub rules_told : (names : List (List ℕ)) (below : LevelsBelow) (r : Refusal) → 1 ≤ length names → levels_rules_kept names below ≡ Err r → IsLevelsRefusal names r
rules_told names below r some e = told (IsLevelsRefusal names) (levels_rules_kept names below) r (rules_only names below some) e
