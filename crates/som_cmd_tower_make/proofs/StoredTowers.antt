-- Libraries of a tower whose images a store holds are got, read and kept.
use Rattle.std.proofs.Common.{◌≡◌, ℕ, zero, suc, ◌+◌, ◌≤◌, ◌==◌, Bool, true, false, not, if◌then◌else◌, List, [], ◌∷◌, ◌++◌, length, map, slice_get, Option, Some, None, Result, Ok, Err, refl, sym, ap, subst, ◌∙◌, arith}
use Rattle.std.proofs.lemmas.Grind.{common_steps}
use Rattle.std.specs.FinMap.{get}
use Rattle.som_model.specs.declared.program.Interface.{Interface}
use Rattle.som_model.specs.declared.program.Release.{Release}
use Rattle.som_model.specs.Bytes.{Files}
use Rattle.som_model.specs.Class.{interface_of}
use Rattle.som_model.specs.Compatible.{CompatBreach}
use Rattle.som_model.specs.Rules.{RuleBreach}
use Rattle.som_model.specs.Steps.{◌>>=◌}
use Rattle.som_image_fields.specs.declared.fault.ImageFault.{ImageFault}
use Rattle.som_image_fields.specs.declared.fault.ImageFault.TheVariants as faults
use Rattle.som_libimage.proofs.Decoded.{image_within, library_again}
use Rattle.som_level_programs.specs.Towers.{AreStacked, own_interface}
use Rattle.som_flat_laws.specs.AcceptedTower.{AreStanding}
use Rattle.som_flat_laws.specs.Flat.{flat_interface}
use Rattle.som_flat.specs.Breaches.{flat_breach}
use Rattle.som_flat.proofs.Leveled.{none_broken}
use Rattle.som_link_limits.proofs.Classes.{program_counts, release_counts}
use Rattle.som_towerimage.specs.declared.level.Level.{Level}
use Rattle.som_tower.specs.Towers.{AreLibraries, IsUpper, interfaces_of, plain, tower_break}
use Rattle.som_tower.proofs.Climbing.{stands}
use Rattle.som_tower.proofs.Unbroken.{stacked_none}
use Rattle.som_verify.proofs.Conforming.{conforms_program, conforms_release}
use Rattle.som_cmd_steps.specs.declared.stop.Refusal.{Refusal}
use Rattle.som_cmd_steps.specs.EachImage.{each_passes}
use Rattle.som_cmd_steps.specs.Getting.{images_in}
use Rattle.som_cmd_steps.specs.ImageSteps.{kept_or, read_or}
use Rattle.som_cmd_steps.proofs.ByteLaws.{library_read}
use Rattle.som_cmd_steps.proofs.FileLaws.{got_by}
use Rattle.som_cmd_levels.specs.declared.levels.LevelsBelow.{LevelsBelow}
use Rattle.som_cmd_levels.specs.Comparing.{level_kept_or}
use Rattle.som_cmd_levels.specs.LevelImages.{in_place, level_read, of_kind}
use Rattle.som_cmd_levels.specs.Levels.{level_rules_kept, levels_in, levels_rules_kept, uppers_in}
use Rattle.som_cmd_levels.specs.StoredLevels.{AreLevelsUnder, HoldsLevel, IsLevelUnder}
use Rattle.som_cmd_levels.proofs.Stored.{stored_read, stored_within}
use Rattle.som_cmd_tower_make.specs.TowerMakeEnds.{AreTowerUnder, IsLibraryAbove, IsSoundFlat}
use Rattle.som_cmd_tower_make.specs.TowerParts.{base_in, base_of, flat_kept_or, standing_in}
use Rattle.som_cmd_tower_make.proofs.BaseSteps.{few_classes, flat_made, with_standing}
use Rattle.som_cmd_tower_make.proofs.SoundBases.{faces_load}

-- ---- one level

same_number : (n : ℕ) → (n == n) ≡ true
same_number n = grind (arith, common_steps)

placed : (below : ℕ) (l : Level) → IsLibraryAbove below l → in_place below false l ≡ Ok l
placed below l a =
    ap (λ (n : ℕ). if n == below then of_kind false l else Err (faults.Number 5)) a.levels
    ∙ ap (λ (b : Bool). if b then of_kind false l else Err (faults.Number 5)) (same_number below)
    ∙ ap (λ (b : Bool). if not b then Ok l else Err (faults.Tag 6)) a.library

read_there : (below : ℕ) (files : Files) (name : List ℕ) (l : Level) (h : HoldsLevel files name l) → IsLibraryAbove below l → level_read below false name h.bytes ≡ Ok l
read_there below files name l h a =
    ap (λ (x : Result Level ImageFault). read_or name (x >>= in_place below false)) (stored_read files name l h) ∙ ap (read_or name) (placed below l a)

-- ---- the levels above the first

abbrev AreAbove : ℕ → List Level → Type 0
AreAbove below ls = (i : ℕ) (l : Level) → slice_get ls i ≡ Some l → IsLibraryAbove (below + i) l

record Uppers (files : Files) (below : ℕ) (names : List (List ℕ)) (ls : List Level) : Type 0 where
  images : List (List ℕ)
  got : images_in names files ≡ Ok images
  many : length images ≡ length names
  read : uppers_in below names images ≡ Ok ls
  kept : each_passes level_rules_kept names ls ≡ Ok tt

plus_none : (n : ℕ) → n + 0 ≡ n
plus_none n = omega arith

plus_suc : (n i : ℕ) → n + suc i ≡ suc n + i
plus_suc n i = omega arith

uppers_there : (files : Files) (below : ℕ) (names : List (List ℕ)) (ls : List Level) → AreLevelsUnder files names ls → AreAbove below ls → Uppers files below names ls
uppers_there files below [] [] under above = record { images = []; got = refl; many = refl; read = refl; kept = refl }
uppers_there files below [] (l ∷ ls) under above = absurd under
uppers_there files below (n ∷ ns) [] under above = absurd under
uppers_there files below (n ∷ ns) (l ∷ ls) under above =
    let h = under.0.holds in
    let first = subst (λ (k : ℕ). IsLibraryAbove k l) (plus_none below) (above 0 l refl) in
    let more = uppers_there files (suc below) ns ls under.1 (λ i x at. subst (λ (k : ℕ). IsLibraryAbove k x) (plus_suc below i) (above (suc i) x at)) in
    record {
      images = h.bytes ∷ more.images;
      got = ap (λ (x : Result (List ℕ) Refusal). x >>= λ b. images_in ns files >>= λ bs. Ok (b ∷ bs)) (got_by (get files n) n h.bytes h.image_is)
          ∙ ap (λ (x : Result (List (List ℕ)) Refusal). x >>= λ bs. Ok (h.bytes ∷ bs)) more.got;
      many = ap suc more.many;
      read = ap (λ (x : Result Level Refusal). x >>= λ y. uppers_in (suc below) ns more.images >>= λ ys. Ok (y ∷ ys)) (read_there below files n l h first)
          ∙ ap (λ (x : Result (List Level) Refusal). x >>= λ ys. Ok (l ∷ ys)) more.read;
      kept = ap (λ (o : Option RuleBreach). kept_or n o >>= λ passed. each_passes level_rules_kept ns ls) (conforms_program l.program under.0.conforms) ∙ more.kept;
    }

-- one of them, by its place
record Under (files : Files) (l : Level) : Type 0 where
  name : List ℕ
  under : IsLevelUnder files name l

under_at : (files : Files) (names : List (List ℕ)) (ls : List Level) → AreLevelsUnder files names ls → (i : ℕ) (l : Level) → slice_get ls i ≡ Some l → Under files l
under_at files [] [] under i l at = absurd (let z = at in cc)
under_at files [] (x ∷ ls) under i l at = absurd under
under_at files (n ∷ ns) [] under i l at = absurd under
under_at files (n ∷ ns) (x ∷ ls) under zero l at = let same : x ≡ l = (let z = at in cc) in subst (Under files) same (record { name = n; under = under.0 })
under_at files (n ∷ ns) (x ∷ ls) under (suc i) l at = under_at files ns ls under.1 i l at

many_under : (files : Files) (names : List (List ℕ)) (ls : List Level) → AreLevelsUnder files names ls → length ls ≡ length names
many_under files [] [] under = refl
many_under files [] (l ∷ ls) under = absurd under
many_under files (n ∷ ns) [] under = absurd under
many_under files (n ∷ ns) (l ∷ ls) under = ap suc (many_under files ns ls under.1)

-- ---- all libraries

-- the images of these libraries are got, and their flat interface comes of them
pub record BaseThere (files : Files) (names : List (List ℕ)) (is : List Interface) : Type 0 where
  pub images : List (List ℕ)
  pub got : images_in names files ≡ Ok images
  pub many : length images ≡ length names
  pub base : base_in names images ≡ Ok (base_of is)

pub uppers_many : (files : Files) (first : List ℕ) (others : List (List ℕ)) (base : Release) (uppers : List Level) → AreTowerUnder files first others base uppers → length uppers ≡ length others
uppers_many files first others base uppers t = many_under files others uppers t.uppers_under

module _ (files : Files) (first : List ℕ) (others : List (List ℕ)) (base : Release) (uppers : List Level) (t : AreTowerUnder files first others base uppers) (few : length uppers + 1 ≤ 8) where
  abbrev names : List (List ℕ)
  names = first ∷ others

  abbrev below : LevelsBelow
  below = record { base = base; uppers = uppers }

  abbrev is : List Interface
  is = interfaces_of base uppers

  libraries : AreLibraries base uppers
  libraries = record {
    base_ok = t.base_under.conforms;
    base_counted = release_counts base (image_within base t.base_under.bytes t.base_under.spelled);
    each = (λ i l at. let at_name = under_at files others uppers t.uppers_under i l at in let u = at_name.under in let h = u.holds in let a = t.each i l at in record {
      sound = record { conforms = u.conforms; counted = program_counts l.program (stored_within files at_name.name l h); fits = h.fits };
      levels = a.levels;
      library = a.library;
    });
    few = few;
  }

  and_one : (i : ℕ) → i + 1 ≡ 1 + i
  and_one i = omega arith

  abbrev there : Uppers files 1 others uppers
  there = uppers_there files 1 others uppers t.uppers_under (λ i l at. subst (λ (k : ℕ). IsLibraryAbove k l) (and_one i) (t.each i l at))

  abbrev images : List (List ℕ)
  images = t.base_under.bytes ∷ there.images

  images_got : images_in names files ≡ Ok images
  images_got =
      ap (λ (x : Result (List ℕ) Refusal). x >>= λ b. images_in others files >>= λ bs. Ok (b ∷ bs)) (got_by (get files first) first t.base_under.bytes t.base_under.image_is)
      ∙ ap (λ (x : Result (List (List ℕ)) Refusal). x >>= λ bs. Ok (t.base_under.bytes ∷ bs)) there.got

  images_many : length images ≡ length names
  images_many = ap suc there.many

  read : levels_in names images ≡ Ok below
  read =
      ap (λ (x : Result Release ImageFault). read_or first x >>= λ r. uppers_in 1 others there.images >>= λ ls. Ok (record { base = r; uppers = ls }))
      (library_read t.base_under.bytes (Ok base) t.base_under.bytes_are (library_again t.base_under.bytes base t.base_under.spelled))
      ∙ ap (λ (x : Result (List Level) Refusal). x >>= λ ls. Ok (record { base = base; uppers = ls })) there.read

  kept : levels_rules_kept names below ≡ Ok tt
  kept = ap (λ (o : Option RuleBreach). kept_or first o >>= λ k. each_passes level_rules_kept others uppers) (conforms_release base t.base_under.conforms) ∙ there.kept

  -- ---- each stands on those below it

  long_more : (xs : List Interface) (x : Interface) → length (xs ++ x ∷ []) ≡ length xs + 1
  long_more [] x = refl
  long_more (y ∷ xs) x = let e = long_more xs x in omega (arith, e)

  stacked_by : (js : List Interface) (ls : List Level) → ((i : ℕ) (l : Level) → slice_get ls i ≡ Some l → IsUpper (length js + i) l) → AreStanding js (map plain ls) → AreStacked js (map plain ls)
  stacked_by js [] ready on = tt
  stacked_by js (l ∷ ls) ready on =
      let u = ready 0 l refl in
      let long = long_more js (own_interface (plain l)) in (
        (stands l u.sound js (u.levels ∙ plus_none (length js)) on.0, u.library),
        stacked_by (js ++ own_interface (plain l) ∷ []) ls (λ i x at. subst (λ (k : ℕ). IsUpper k x) (omega (arith, long)) (ready (suc i) x at)) on.1,
      )

  nothing_broken : tower_break (interface_of base ∷ []) (map plain uppers) ≡ None
  nothing_broken =
      stacked_none base uppers libraries [] uppers refl tt
      (stacked_by (interface_of base ∷ []) uppers (λ i l at. subst (λ (k : ℕ). IsUpper k l) (and_one i) (libraries.each i l at)) t.stand)

  standing : standing_in names below ≡ Ok is
  standing = ap (λ (o : Option (ℕ × CompatBreach)). level_kept_or names o >>= λ k. Ok is) nothing_broken

  -- ---- their flat interface

  base_there : IsSoundFlat is → base_in names images ≡ Ok (base_of is)
  base_there sound =
      let none : flat_breach is ≡ None = none_broken is (faces_load base uppers libraries nothing_broken) sound.rules in
      sym (with_standing names images below read tt kept is standing)
      ∙ flat_made names is tt tt (base_of is) (ap (flat_kept_or names) none) (few_classes (length (flat_interface is).classes) sound.few) refl

  pub tower_there : IsSoundFlat is → BaseThere files names is
  tower_there sound = record { images = images; got = images_got; many = images_many; base = base_there sound }
