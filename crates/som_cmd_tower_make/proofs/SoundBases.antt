-- The flat interface of levels that were read, looked at and compared may be compiled against.
use Rattle.std.proofs.Common.{◌≡◌, ℕ, suc, ◌+◌, ◌<◌, ◌≤◌, Bool, true, false, if◌then◌else◌, nat_le, List, [], ◌∷◌, codes, length, map, slice_get, Option, Some, None, Ok, Err, inl, inr, refl, sym, ap, subst, ◌∙◌, arith}
use Rattle.std.proofs.lemmas.Bool.{leb-true}
use Rattle.std.proofs.lemmas.List.{length-map}
use Rattle.std.specs.Option.{option_map}
use Rattle.som_model.specs.declared.limits.TheConstants.{MAX_LIBRARY_CLASSES}
use Rattle.som_model.specs.declared.program.Interface.{Interface}
use Rattle.som_model.specs.declared.program.Release.{Release}
use Rattle.som_model.specs.Class.{interface_of}
use Rattle.som_model.specs.Classes.{interface_classes}
use Rattle.som_model.specs.Compatible.{CompatBreach}
use Rattle.som_model.specs.Conforming.{faces_breach}
use Rattle.som_model.specs.Lists.{Mem}
use Rattle.som_model.specs.Loads.{FacesLoad}
use Rattle.som_model.specs.Rules.{RuleBreach}
use Rattle.som_model.specs.Steps.{◌>>=◌}
use Rattle.som_model.proofs.StepLaws.{same_ok, went}
use Rattle.som_cliimage.specs.Limits as programs
use Rattle.som_level_laws.specs.Levels.{level_classes}
use Rattle.som_level_programs.specs.Towers.{own_interface}
use Rattle.som_level_programs.proofs.Counted.{release_parents}
use Rattle.som_level_programs.proofs.LevelsStand.{tower_stands}
use Rattle.som_flat_laws.specs.Flat.{flat_interface}
use Rattle.som_flat_laws.proofs.Placing.{flat_count}
use Rattle.som_flat.specs.Breaches.{flat_breach}
use Rattle.som_flat.proofs.Leveled.{breach_told}
use Rattle.som_compat_levels.specs.declared.breach.LevelBreach.{LevelBreach}
use Rattle.som_compat_levels.specs.declared.breach.LevelFault.{LevelFault}
use Rattle.som_compat_levels.specs.declared.breach.LevelFault.TheVariants as faults
use Rattle.som_compat_levels.specs.Told.{IsTold}
use Rattle.som_link_limits.proofs.Classes.{program_counts, release_counts}
use Rattle.som_towerimage.specs.declared.level.Level.{Level}
use Rattle.som_tower.specs.Towers.{AreLibraries, TellsTower, interfaces_of, plain, tower_break}
use Rattle.som_tower.proofs.Unbroken.{none_stacked}
use Rattle.som_cmd_sources.specs.Texts.{too_many}
use Rattle.som_cmd_levels.specs.declared.levels.LevelsBelow.{LevelsBelow}
use Rattle.som_cmd_levels.specs.Comparing.{level_kept_or}
use Rattle.som_cmd_levels.specs.Levels.{AreLevelsOf, LevelsConform, levels_in, levels_rules_kept}
use Rattle.som_cmd_tower_make.specs.declared.base.TowerBase.{TowerBase}
use Rattle.som_cmd_tower_make.specs.Bases.{IsSoundBase}
use Rattle.som_cmd_tower_make.specs.TowerParts.{base_in, base_of, classes_kept, flat_in, flat_kept_or, levels_standing, standing_in}
use Rattle.som_cmd_tower_make.proofs.LevelNumbers.{BreachesAtLevels, flat_level, tower_level}
use Rattle.som_cmd_tower_make.proofs.FlatFaces.{flat_roomy, tower_roomy}
use Rattle.som_cmd_tower_make.proofs.ReadLevels.{levels_known, rules_known}

-- ---- libraries one above the other

one_and : (i : ℕ) → 1 + i ≡ i + 1
one_and i = omega arith

pub libraries_of : (names : List (List ℕ)) (below : LevelsBelow) → AreLevelsOf names below → LevelsConform below → length names ≤ 8 → AreLibraries below.base below.uppers
libraries_of names below levels conform few = record {
  base_ok = conform.base;
  base_counted = release_counts below.base levels.base;
  each = (λ i l at. let u = levels.uppers i l at in record {
    sound = record { conforms = conform.uppers i l at; counted = program_counts l.program u.within; fits = u.fits };
    levels = u.levels ∙ one_and i;
    library = u.kind;
  });
  few = (let many = levels.many in omega (arith, many, few));
}

at_place : {A : Type 0} (xs : List A) (x : A) → Mem x xs → (i : ℕ) × (slice_get xs i ≡ Some x)
at_place [] x m = absurd m
at_place (y ∷ ys) x (inl e) = (0, ap (λ z. Some z) (sym e))
at_place (y ∷ ys) x (inr m) = let r = at_place ys x m in (suc r.0, r.1)

each_within : (names : List (List ℕ)) (below : LevelsBelow) → AreLevelsOf names below → (l : Level) → Mem l below.uppers → programs.IsWithinLimits l.program
each_within names below levels l m = let r = at_place below.uppers l m in (levels.uppers r.0 l r.1).within

-- ---- what stands

kept_none : (names : List (List ℕ)) (o : Option (ℕ × CompatBreach)) (u : Unit {0}) → level_kept_or names o ≡ Ok u → o ≡ None
kept_none names None u e = refl
kept_none names (Some found) u e = absurd (let z = e in cc)

flat_none : (names : List (List ℕ)) (o : Option (ℕ × RuleBreach)) (u : Unit {0}) → flat_kept_or names o ≡ Ok u → o ≡ None
flat_none names None u e = refl
flat_none names (Some found) u e = absurd (let z = e in cc)

few_by : (b : Bool) (u : Unit {0}) → (if b then Ok tt else Err (too_many (codes "classes") MAX_LIBRARY_CLASSES)) ≡ Ok u → b ≡ true
few_by true u e = refl
few_by false u e = absurd (let z = e in cc)

-- the faces of libraries that break nothing can be loaded together
pub faces_load : (base : Release) (uppers : List Level) → AreLibraries base uppers → tower_break (interface_of base ∷ []) (map plain uppers) ≡ None → FacesLoad (level_classes (interfaces_of base uppers))
faces_load base uppers ok none =
    tower_stands base (map plain uppers) ok.base_ok (release_parents base ok.base_counted.each) (none_stacked base uppers ok [] uppers refl tt none)

-- and their flat interface breaks no rule where none is told
pub rules_hold : (is : List Interface) → FacesLoad (level_classes is) → flat_breach is ≡ None → faces_breach (interface_classes (flat_interface is)) ≡ None
rules_hold is f none = sym (breach_told is f) ∙ ap (option_map (λ (p : ℕ × RuleBreach). p.1)) none

many_levels : (base : Release) (uppers : List Level) → length (interfaces_of base uppers) ≡ length uppers + 1
many_levels base uppers =
    let a : length (map own_interface (map plain uppers)) ≡ length (map plain uppers) = length-map (map plain uppers) own_interface in
    let b : length (map plain uppers) ≡ length uppers = length-map uppers plain in
    omega (arith, a, b)

pub standing_many : (names : List (List ℕ)) (below : LevelsBelow) (is : List Interface) → AreLevelsOf names below → is ≡ interfaces_of below.base below.uppers → length is ≡ length names
standing_many names below is levels same =
    let a : length is ≡ length (interfaces_of below.base below.uppers) = ap length same in
    let b = many_levels below.base below.uppers in
    let c = levels.many in
    omega (arith, a, b, c)

-- what one of them doesn't keep has the name of one, and so has what breaks a rule
pub told_breach : (A : Type 0) (breach : Option (ℕ × CompatBreach)) (e : LevelFault) (b : LevelBreach) → e ≡ faults.Breach b → TellsTower {A = A} breach (Err e) → (found : ℕ × CompatBreach) × (breach ≡ Some found) × IsTold found b
told_breach A breach e b is t = let P : LevelFault → Type 0 = λ z. TellsTower {A = A} breach (Err z) in subst P is t

pub level_named : BreachesAtLevels → (names : List (List ℕ)) (below : LevelsBelow) (b : LevelBreach) → AreLevelsOf names below → LevelsConform below → length names ≤ 8
    → ((found : ℕ × CompatBreach) × (tower_break (interface_of below.base ∷ []) (map plain below.uppers) ≡ Some found) × IsTold found b) → b.level < length names
level_named law names below b levels conform few (found, is, told) =
    let low = tower_level law below.base below.uppers found (libraries_of names below levels conform few) is in
    let at = told.level in
    let many = levels.many in
    omega (arith, low, at, many)

pub flat_named : (names : List (List ℕ)) (is : List Interface) (level : ℕ) (b : RuleBreach) → length is ≡ length names → flat_breach is ≡ Some (level, b) → level < length names
flat_named names is level b many e = let low = flat_level is level b e in omega (arith, low, many)

-- ---- the base

module _ (names : List (List ℕ)) (below : LevelsBelow) (levels : AreLevelsOf names below) (conform : LevelsConform below) (few : length names ≤ 8) where
  abbrev is : List Interface
  is = interfaces_of below.base below.uppers

  flat_sound : tower_break (interface_of below.base ∷ []) (map plain below.uppers) ≡ None → flat_breach is ≡ None → length (flat_interface is).classes ≤ MAX_LIBRARY_CLASSES → IsSoundBase (length names) (base_of is)
  flat_sound none kept le = record {
    base = record {
      conforms = rules_hold is (faces_load below.base below.uppers (libraries_of names below levels conform few) none) kept;
      few = le;
      each_face = flat_roomy is (tower_roomy below.base below.uppers levels.base (each_within names below levels));
    };
    levels = (let a = length-map is (λ (i : Interface). length i.classes) in let b = many_levels below.base below.uppers in let c = levels.many in omega (arith, a, b, c));
    classes = flat_count is;
  }

  by_flat : (js : List Interface) (b : TowerBase) → tower_break (interface_of below.base ∷ []) (map plain below.uppers) ≡ None → is ≡ js → flat_in names js ≡ Ok b → IsSoundBase (length names) b
  by_flat js b none same e =
      let w = went (flat_kept_or names (flat_breach js)) (λ (kept : Unit {0}). classes_kept (length (flat_interface js).classes) >>= λ f. Ok (base_of js)) b e in
      let v = went (classes_kept (length (flat_interface js).classes)) (λ (f : Unit {0}). Ok (base_of js)) b w.further in
      let kept = flat_none names (flat_breach js) w.value w.first in
      let le : length (flat_interface js).classes ≤ MAX_LIBRARY_CLASSES = leb-true (length (flat_interface js).classes) MAX_LIBRARY_CLASSES (few_by (nat_le (length (flat_interface js).classes) MAX_LIBRARY_CLASSES) v.value v.first) in
      let sound = flat_sound none (ap flat_breach same ∙ kept) (subst (λ (z : List Interface). length (flat_interface z).classes ≤ MAX_LIBRARY_CLASSES) (sym same) le) in
      subst (IsSoundBase (length names)) (ap base_of same ∙ same_ok (base_of js) b v.further) sound

pub base_sound : (names images : List (List ℕ)) (b : TowerBase) → length images ≡ length names → 1 ≤ length names → length names ≤ 8 → base_in names images ≡ Ok b → IsSoundBase (length names) b
base_sound names images b same some few e =
    let w = went (levels_standing names images) (flat_in names) b e in
    let v = went (levels_in names images) (λ (below : LevelsBelow). levels_rules_kept names below >>= λ kept. standing_in names below) w.value w.first in
    let u = went (levels_rules_kept names v.value) (λ (kept : Unit {0}). standing_in names v.value) w.value v.further in
    let t = went (level_kept_or names (tower_break (interface_of v.value.base ∷ []) (map plain v.value.uppers))) (λ (kept : Unit {0}). Ok (interfaces_of v.value.base v.value.uppers)) w.value u.further in
    let levels = levels_known names images v.value same some v.first in
    by_flat names v.value levels (rules_known names v.value u.value levels.many u.first) few w.value b
    (kept_none names (tower_break (interface_of v.value.base ∷ []) (map plain v.value.uppers)) t.value t.first) (same_ok (interfaces_of v.value.base v.value.uppers) w.value t.further) w.further
