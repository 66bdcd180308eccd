-- The steps from images to the flat interface of their levels, one after the other.
use Rattle.std.proofs.Common.{◌≡◌, ℕ, ◌<◌, ◌≤◌, Bool, true, false, if◌then◌else◌, nat_le, List, [], ◌∷◌, codes, length, map, Option, Some, None, Result, Ok, Err, sym, ap, subst, ◌∙◌, arith}
use Rattle.std.proofs.lemmas.Grind.{common_steps}
use Rattle.som_model.specs.declared.limits.TheConstants.{MAX_LIBRARY_CLASSES}
use Rattle.som_model.specs.declared.program.Interface.{Interface}
use Rattle.som_model.specs.Class.{interface_of}
use Rattle.som_model.specs.Compatible.{CompatBreach}
use Rattle.som_model.specs.Steps.{◌>>=◌}
use Rattle.som_order.specs.Names.{name_at}
use Rattle.som_verify_classes.specs.declared.types.Broken.{Broken}
use Rattle.som_verify_classes.specs.Told.{told}
use Rattle.som_compat_levels.specs.declared.breach.LevelBreach.{LevelBreach}
use Rattle.som_compat_levels.specs.Told.{IsTold}
use Rattle.som_flat_laws.specs.Flat.{flat_interface}
use Rattle.som_flat.specs.Breaches.{flat_breach}
use Rattle.som_tower.specs.Towers.{interfaces_of, plain, tower_break}
use Rattle.som_cmd_steps.specs.declared.stop.Refusal.{Refusal}
use Rattle.som_cmd_steps.specs.declared.stop.CommandStop.{CommandStop}
use Rattle.som_cmd_steps.specs.declared.stop.CommandStop.TheVariants as stops
use Rattle.som_cmd_steps.specs.Lines.{broken}
use Rattle.som_cmd_steps.specs.Steps.{Follows, Stops}
use Rattle.som_cmd_steps.proofs.ImageLaws.{stops_first}
use Rattle.som_cmd_sources.specs.Texts.{too_many}
use Rattle.som_cmd_levels.specs.declared.levels.LevelsBelow.{LevelsBelow}
use Rattle.som_cmd_levels.specs.Comparing.{level_kept_or}
use Rattle.som_cmd_levels.specs.Levels.{levels_in, levels_rules_kept}
use Rattle.som_cmd_tower_make.specs.declared.base.TowerBase.{TowerBase}
use Rattle.som_cmd_tower_make.specs.TowerParts.{base_in, base_of, classes_kept, flat_in, flat_kept_or, levels_standing, standing_in}

-- ---- levels that stand

abbrev breach_of : LevelsBelow → Option (ℕ × CompatBreach)
breach_of below = tower_break (interface_of below.base ∷ []) (map plain below.uppers)

pub stands : (names : List (List ℕ)) (below : LevelsBelow) (is : List Interface) → breach_of below ≡ None → is ≡ interfaces_of below.base below.uppers → Follows (Ok is) (standing_in names below)
stands names below is none same =
    ap (λ (o : Option (ℕ × CompatBreach)). level_kept_or names o >>= λ kept. Ok (interfaces_of below.base below.uppers)) none ∙ ap (λ (x : List Interface). Ok x) (sym same)

-- what one of them doesn't keep is told under its name
pub not_standing : (names : List (List ℕ)) (below : LevelsBelow) (b : LevelBreach) (r : Refusal) → ((found : ℕ × CompatBreach) × (breach_of below ≡ Some found) × IsTold found b)
    → ((found : ℕ × CompatBreach) → IsTold found b → level_kept_or names (Some found) ≡ Err r) → Follows {A = List Interface} (Err (stops.Refused r)) (standing_in names below)
not_standing names below b r (found, is, told) line =
    ap (λ (o : Option (ℕ × CompatBreach)). level_kept_or names o >>= λ kept. Ok (interfaces_of below.base below.uppers)) is
    ∙ ap (λ (x : Result (Unit {0}) Refusal). x >>= λ kept. Ok (interfaces_of below.base below.uppers)) (line found told)

-- ---- the flat interface

pub flat_kept : (names : List (List ℕ)) (is : List Interface) → flat_breach is ≡ None → Follows (Ok tt) (flat_kept_or names (flat_breach is))
flat_kept names is none = ap (flat_kept_or names) none

pub flat_broken : (names : List (List ℕ)) (is : List Interface) (level : ℕ) (b : Broken) (name : List ℕ) (r : Refusal) → flat_breach is ≡ Some (level, told b) → name ≡ name_at names level → r ≡ broken name (told b)
    → Follows {A = Unit {0}} (Err (stops.Refused r)) (flat_kept_or names (flat_breach is))
flat_broken names is level b name r e at line =
    ap (flat_kept_or names) e ∙ ap (λ (n : List ℕ). Err (broken n (told b))) (sym at) ∙ ap (λ (x : Refusal). Err x) (sym line)

abbrev kept_if : Bool → Result (Unit {0}) Refusal
kept_if b = if b then Ok tt else Err (too_many (codes "classes") MAX_LIBRARY_CLASSES)

past : (count : ℕ) → MAX_LIBRARY_CLASSES < count → nat_le count MAX_LIBRARY_CLASSES ≡ false
past count lt = grind (arith, common_steps)

not_past : (count : ℕ) → count ≤ MAX_LIBRARY_CLASSES → nat_le count MAX_LIBRARY_CLASSES ≡ true
not_past count le = grind (arith, common_steps)

pub many_classes : (count : ℕ) (r : Refusal) → MAX_LIBRARY_CLASSES < count → r ≡ too_many (codes "classes") MAX_LIBRARY_CLASSES → Follows {A = Unit {0}} (Err (stops.Refused r)) (classes_kept count)
many_classes count r lt is = ap kept_if (past count lt) ∙ ap (λ (x : Refusal). Err x) (sym is)

pub few_classes : (count : ℕ) → count ≤ MAX_LIBRARY_CLASSES → Follows (Ok tt) (classes_kept count)
few_classes count le = ap kept_if (not_past count le)

module _ (names : List (List ℕ)) (is : List Interface) where
  abbrev count : ℕ
  count = length (flat_interface is).classes

  abbrev counted : Unit {0} → Result TowerBase Refusal
  counted kept = classes_kept count >>= λ few. Ok (base_of is)

  pub flat_stops : (stop : CommandStop) → Follows {A = Unit {0}} (Err stop) (flat_kept_or names (flat_breach is)) → Follows {A = TowerBase} (Err stop) (flat_in names is)
  flat_stops stop f = stops_first stop (flat_kept_or names (flat_breach is)) counted f

  after_rules : (u : Unit {0}) → flat_kept_or names (flat_breach is) ≡ Ok u → counted u ≡ flat_in names is
  after_rules u f = ap (λ (x : Result (Unit {0}) Refusal). x >>= counted) (sym f)

  pub count_stops : (u : Unit {0}) (stop : CommandStop) → Follows (Ok u) (flat_kept_or names (flat_breach is)) → Follows {A = Unit {0}} (Err stop) (classes_kept count) → Follows {A = TowerBase} (Err stop) (flat_in names is)
  count_stops u stop f g = subst (Stops stop) (after_rules u f) (stops_first stop (classes_kept count) (λ few. Ok (base_of is)) g)

  pub flat_made : (u v : Unit {0}) (b : TowerBase) → Follows (Ok u) (flat_kept_or names (flat_breach is)) → Follows (Ok v) (classes_kept count) → b ≡ base_of is → Follows (Ok b) (flat_in names is)
  flat_made u v b f g same = sym (after_rules u f) ∙ ap (λ (x : Result (Unit {0}) Refusal). x >>= λ few. Ok (base_of is)) g ∙ ap (λ (x : TowerBase). Ok x) (sym same)

-- ---- from images to it

module _ (names images : List (List ℕ)) where
  abbrev after_levels : LevelsBelow → Result (List Interface) Refusal
  after_levels below = levels_rules_kept names below >>= λ kept. standing_in names below

  pub levels_stop : (stop : CommandStop) → Follows {A = LevelsBelow} (Err stop) (levels_in names images) → Follows {A = TowerBase} (Err stop) (base_in names images)
  levels_stop stop f = stops_first stop (levels_standing names images) (flat_in names) (stops_first stop (levels_in names images) after_levels f)

  module _ (below : LevelsBelow) (read : levels_in names images ≡ Ok below) where
    with_levels : (after_levels below >>= flat_in names) ≡ base_in names images
    with_levels = ap (λ (x : Result LevelsBelow Refusal). (x >>= after_levels) >>= flat_in names) (sym read)

    pub rules_stop : (stop : CommandStop) → Follows {A = Unit {0}} (Err stop) (levels_rules_kept names below) → Follows {A = TowerBase} (Err stop) (base_in names images)
    rules_stop stop f = subst (Stops stop) with_levels (stops_first stop (after_levels below) (flat_in names) (stops_first stop (levels_rules_kept names below) (λ kept. standing_in names below) f))

    module _ (u : Unit {0}) (kept : levels_rules_kept names below ≡ Ok u) where
      with_rules : (standing_in names below >>= flat_in names) ≡ base_in names images
      with_rules = ap (λ (x : Result (Unit {0}) Refusal). (x >>= λ k. standing_in names below) >>= flat_in names) (sym kept) ∙ with_levels

      pub standing_stops : (stop : CommandStop) → Follows {A = List Interface} (Err stop) (standing_in names below) → Follows {A = TowerBase} (Err stop) (base_in names images)
      standing_stops stop f = subst (Stops stop) with_rules (stops_first stop (standing_in names below) (flat_in names) f)

      pub with_standing : (is : List Interface) → standing_in names below ≡ Ok is → flat_in names is ≡ base_in names images
      with_standing is f = ap (λ (x : Result (List Interface) Refusal). x >>= flat_in names) (sym f) ∙ with_rules

-- what the last step comes to is what all come to
pub base_made : (names images : List (List ℕ)) (below : LevelsBelow) (u : Unit {0}) (is : List Interface) (result : Result TowerBase CommandStop) → Follows (Ok below) (levels_in names images) → Follows (Ok u) (levels_rules_kept names below)
    → Follows (Ok is) (standing_in names below) → Follows result (flat_in names is) → Follows result (base_in names images)
base_made names images below u is result f g h i = subst (Follows result) (with_standing names images below f u g is h) i
