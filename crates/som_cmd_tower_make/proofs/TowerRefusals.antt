-- What `tower make` may refuse, and which statuses it may end with, whatever the store tells.
use Rattle.std.proofs.Common.{ℕ, suc, Bool, true, false, if◌then◌else◌, nat_le, List, [], ◌∷◌, codes, drop, length, map, Option, Some, None, Result, Ok, Err, refl, sym, subst, inl, inr}
use Rattle.som_model.specs.declared.limits.TheConstants.{MAX_LIBRARY_CLASSES}
use Rattle.som_model.specs.declared.program.Interface.{Interface}
use Rattle.som_model.specs.declared.program.Release.{Release}
use Rattle.som_model.specs.Class.{interface_of}
use Rattle.som_model.specs.Compatible.{CompatBreach}
use Rattle.som_model.specs.Conforming.{program_breach, release_breach}
use Rattle.som_model.specs.Lists.{Mem}
use Rattle.som_model.specs.Rules.{RuleBreach}
use Rattle.som_model.specs.Steps.{◌>>=◌}
use Rattle.som_order.specs.Names.{name_at}
use Rattle.som_sources.specs.declared.source.Source.{Source}
use Rattle.som_flat_laws.specs.Flat.{flat_interface}
use Rattle.som_flat.specs.Breaches.{flat_breach}
use Rattle.som_towerimage.specs.declared.level.Level.{Level}
use Rattle.som_tower.specs.Towers.{interfaces_of, plain, tower_break}
use Rattle.som_cmd_steps.specs.declared.stop.Refusal.{Refusal}
use Rattle.som_cmd_steps.specs.declared.stop.CommandStop.{CommandStop}
use Rattle.som_cmd_steps.specs.declared.stop.CommandStop.TheVariants as stops
use Rattle.som_cmd_steps.specs.EachImage.{each_passes}
use Rattle.som_cmd_steps.specs.Getting.{IsAbsentOf}
use Rattle.som_cmd_steps.specs.ImageSteps.{library_in, release_in, rules_kept}
use Rattle.som_cmd_steps.specs.Refusing.{EndsIn, HasStatusIn, RefusesAs, StopRefusesAs}
use Rattle.som_cmd_steps.specs.Steps.{Follows}
use Rattle.som_cmd_steps.proofs.Statuses.{Only, kept_only, read_only, stops_only, then_only}
use Rattle.som_cmd_sources.specs.Compiled.{Compiled}
use Rattle.som_cmd_sources.specs.Statuses.{client_statuses, library_statuses}
use Rattle.som_cmd_sources.specs.Texts.{too_many}
use Rattle.som_cmd_sources.proofs.TextRefusals.{compiled_in, in_client}
use Rattle.som_cmd_build.specs.declared.putting.PutEnd.{PutEnd}
use Rattle.som_cmd_build.specs.declared.putting.PutEnd.TheVariants as ends
use Rattle.som_cmd_build.specs.PutSteps.{outcome_of}
use Rattle.som_cmd_build.proofs.BuildRefusals.{none_in}
use Rattle.som_cmd_levels.specs.declared.levels.LevelsBelow.{LevelsBelow}
use Rattle.som_cmd_levels.specs.Comparing.{level_kept_or}
use Rattle.som_cmd_levels.specs.LevelImages.{level_read, placed_in}
use Rattle.som_cmd_levels.specs.Levels.{level_rules_kept, levels_in, levels_rules_kept, uppers_in}
use Rattle.som_cmd_tower_make.specs.declared.base.TowerBase.{TowerBase}
use Rattle.som_cmd_tower_make.specs.declared.parts.TowerParts.{TowerParts}
use Rattle.som_cmd_tower_make.specs.Statuses.{tower_make_statuses}
use Rattle.som_cmd_tower_make.specs.TowerMakeAnswer.{CompilesTower}
use Rattle.som_cmd_tower_make.specs.TowerParts.{base_in, base_of, classes_kept, flat_in, flat_kept_or, levels_standing, standing_in}

abbrev Fine : Refusal → Type 0
Fine = HasStatusIn tower_make_statuses

five : Mem 5 tower_make_statuses
five = inr (inl refl)

-- ---- the libraries

uppers_only : (below : ℕ) (names images : List (List ℕ)) → Only Fine (uppers_in below names images)
uppers_only below [] images = tt
uppers_only below (n ∷ ns) [] = tt
uppers_only below (n ∷ ns) (b ∷ bs) =
    then_only Fine (level_read below false n b) (λ (l : Level). uppers_in (suc below) ns bs >>= λ ls. Ok (l ∷ ls)) (read_only tower_make_statuses five n (placed_in below false b))
    (λ l. then_only Fine (uppers_in (suc below) ns bs) (λ (ls : List Level). Ok (l ∷ ls)) (uppers_only (suc below) ns bs) (λ ls. tt))

abbrev levels_of : Release → List Level → Result LevelsBelow Refusal
levels_of r ls = Ok (record { base = r; uppers = ls })

levels_only : (names images : List (List ℕ)) → Only Fine (levels_in names images)
levels_only names images =
    then_only Fine (release_in (name_at names 0) (name_at images 0)) (λ (r : Release). uppers_in 1 (drop 1 names) (drop 1 images) >>= levels_of r)
    (read_only tower_make_statuses five (name_at names 0) (library_in (name_at images 0)))
    (λ r. then_only Fine (uppers_in 1 (drop 1 names) (drop 1 images)) (levels_of r) (uppers_only 1 (drop 1 names) (drop 1 images)) (λ ls. tt))

each_only : (names : List (List ℕ)) (ls : List Level) → Only Fine (each_passes level_rules_kept names ls)
each_only [] ls = tt
each_only (n ∷ ns) [] = tt
each_only (n ∷ ns) (l ∷ ls) =
    then_only Fine (level_rules_kept n l) (λ (u : Unit {0}). each_passes level_rules_kept ns ls) (kept_only tower_make_statuses five n (program_breach l.program)) (λ u. each_only ns ls)

rules_only : (names : List (List ℕ)) (below : LevelsBelow) → Only Fine (levels_rules_kept names below)
rules_only names below =
    then_only Fine (rules_kept (name_at names 0) below.base) (λ (u : Unit {0}). each_passes level_rules_kept (drop 1 names) below.uppers) (kept_only tower_make_statuses five (name_at names 0) (release_breach below.base))
    (λ u. each_only (drop 1 names) below.uppers)

level_kept_only : (names : List (List ℕ)) (o : Option (ℕ × CompatBreach)) → Only Fine (level_kept_or names o)
level_kept_only names None = tt
level_kept_only names (Some found) = inl refl

standing_only : (names : List (List ℕ)) (below : LevelsBelow) → Only Fine (standing_in names below)
standing_only names below =
    let o = tower_break (interface_of below.base ∷ []) (map plain below.uppers) in
    then_only Fine (level_kept_or names o) (λ (u : Unit {0}). Ok (interfaces_of below.base below.uppers)) (level_kept_only names o) (λ u. tt)

-- ---- the flat interface

flat_kept_only : (names : List (List ℕ)) (o : Option (ℕ × RuleBreach)) → Only Fine (flat_kept_or names o)
flat_kept_only names None = tt
flat_kept_only names (Some found) = five

few_only : (b : Bool) → Only {A = Unit {0}} Fine (if b then Ok tt else Err (too_many (codes "classes") MAX_LIBRARY_CLASSES))
few_only true = tt
few_only false = inr (inr (inr (inr (inr (inl refl)))))

flat_only : (names : List (List ℕ)) (is : List Interface) → Only Fine (flat_in names is)
flat_only names is =
    let count = length (flat_interface is).classes in
    then_only Fine (flat_kept_or names (flat_breach is)) (λ (u : Unit {0}). classes_kept count >>= λ few. Ok (base_of is)) (flat_kept_only names (flat_breach is))
    (λ u. then_only Fine (classes_kept count) (λ (few : Unit {0}). Ok (base_of is)) (few_only (nat_le count MAX_LIBRARY_CLASSES)) (λ few. tt))

base_only : (names images : List (List ℕ)) → Only Fine (base_in names images)
base_only names images =
    then_only Fine (levels_standing names images) (flat_in names)
    (then_only Fine (levels_in names images) (λ (below : LevelsBelow). levels_rules_kept names below >>= λ kept. standing_in names below) (levels_only names images)
    (λ below. then_only Fine (levels_rules_kept names below) (λ (kept : Unit {0}). standing_in names below) (rules_only names below) (λ kept. standing_only names below)))
    (λ is. flat_only names is)

pub base_refused_in : (names images : List (List ℕ)) (stop : CommandStop) → Follows {A = TowerBase} (Err stop) (base_in names images) → RefusesAs {A = TowerParts} (HasStatusIn tower_make_statuses) (Err stop)
base_refused_in names images stop f = stops_only Fine (base_in names images) (base_only names images) stop f

-- ---- what is got

pub images_absent_in : (names : List (List ℕ)) (stop : CommandStop) → RefusesAs {A = List (List ℕ)} (IsAbsentOf names) (Err stop) → RefusesAs {A = TowerParts} (HasStatusIn tower_make_statuses) (Err stop)
images_absent_in names (stops.Refused r) is = subst Fine (sym is.2) (inr (inr (inr (inr (inl refl)))))
images_absent_in names (stops.StoreFailed line) is = tt
images_absent_in names stops.NoMemory is = tt

-- what is refused of a client is refused of a level
of_client : (stop : CommandStop) → StopRefusesAs (HasStatusIn client_statuses) stop → StopRefusesAs (HasStatusIn tower_make_statuses) stop
of_client (stops.Refused r) is = inr is
of_client (stops.StoreFailed line) is = tt
of_client stops.NoMemory is = tt

pub texts_refused_in : (stop : CommandStop) → RefusesAs {A = List Source} (HasStatusIn library_statuses) (Err stop) → RefusesAs {A = TowerParts} (HasStatusIn tower_make_statuses) (Err stop)
texts_refused_in stop is = of_client stop (in_client stop is)

-- ---- what is compiled and put

pub image_refused_in : (client : Bool) (parts : TowerParts) (stop : CommandStop) → Compiled (CompilesTower client parts) (Err stop) → RefusesAs {A = PutEnd} (HasStatusIn tower_make_statuses) (Err stop)
image_refused_in client parts stop made = of_client stop (in_client stop (compiled_in (CompilesTower client parts) stop made))

pub put_refused_in : (result : Result PutEnd CommandStop) → RefusesAs (λ r. ⊥) result → RefusesAs (HasStatusIn tower_make_statuses) result
put_refused_in result none = none_in (HasStatusIn tower_make_statuses) result none

pub level_ends_in : (result : Result PutEnd CommandStop) → RefusesAs (HasStatusIn tower_make_statuses) result → EndsIn tower_make_statuses (outcome_of result)
level_ends_in (Ok ends.Done) is = inr (inr (inl refl))
level_ends_in (Ok (ends.Failed put)) is = tt
level_ends_in (Err stop) is = is
