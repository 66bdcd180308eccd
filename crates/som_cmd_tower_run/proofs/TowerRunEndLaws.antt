-- How a run of a tower ends whose images a store holds.
use Rattle.std.proofs.Common.{◌≡◌, ◌≤◌, ℕ, suc, Bool, true, false, not, if◌then◌else◌, List, [], ◌∷◌, drop, length, Option, Some, None, Result, Ok, Err, refl, sym, ap, subst, ◌∙◌, arith}
use Rattle.std.specs.FinMap.{get}
use Rattle.std.proofs.lemmas.Bool.{eq-eqb}
use Rattle.som_model.specs.declared.program.Release.{Release}
use Rattle.som_model.specs.Bytes.{Files}
use Rattle.som_model.specs.Class.{interface_of}
use Rattle.som_model.specs.Compatible.{CompatBreach}
use Rattle.som_model.specs.Rules.{RuleBreach}
use Rattle.som_model.specs.Steps.{◌>>=◌}
use Rattle.som_semantics.specs.RunText.{no_trace}
use Rattle.som_image_fields.specs.declared.fault.ImageFault.{ImageFault}
use Rattle.som_image_fields.specs.declared.fault.ImageFault.TheVariants as faults
use Rattle.som_libimage.proofs.Decoded.{library_again}
use Rattle.som_verify.proofs.Conforming.{conforms_program, conforms_release}
use Rattle.som_order.specs.Names.{name_at}
use Rattle.som_towerimage.specs.declared.level.Level.{Level}
use Rattle.som_tower.specs.Towers.{programs_above, tower_break}
use Rattle.som_io.specs.Outside.{ShowsAll}
use Rattle.som_cmd_steps.specs.declared.stop.Refusal.{Refusal}
use Rattle.som_cmd_steps.specs.EachImage.{each_passes}
use Rattle.som_cmd_steps.specs.Endings.{Ending, refusing}
use Rattle.som_cmd_steps.specs.Getting.{images_in}
use Rattle.som_cmd_steps.specs.ImageSteps.{kept_or, program_rules_kept, read_or, release_in, rules_kept}
use Rattle.som_cmd_steps.specs.Lines.{not_kept}
use Rattle.som_cmd_steps.specs.Outcomes.{EndsAs}
use Rattle.som_cmd_steps.specs.StoredImages.{IsUnder}
use Rattle.som_cmd_steps.proofs.ByteLaws.{library_read}
use Rattle.som_cmd_steps.proofs.FileLaws.{got_by}
use Rattle.som_cmd_levels.specs.declared.levels.LevelsBelow.{LevelsBelow}
use Rattle.som_cmd_levels.specs.Comparing.{level_kept_or}
use Rattle.som_cmd_levels.specs.LevelImages.{in_place, is_kind, level_read, of_kind}
use Rattle.som_cmd_levels.specs.Levels.{level_rules_kept, levels_in, levels_rules_kept, uppers_in}
use Rattle.som_cmd_levels.specs.StoredLevels.{AreLevelsUnder, HoldsLevel}
use Rattle.som_cmd_levels.proofs.Stored.{stored_read}
use Rattle.som_cmd_run.specs.RunAnswer.{ran}
use Rattle.som_cmd_tower_run.specs.declared.tower.Tower.{Tower}
use Rattle.som_cmd_tower_run.specs.Steps.{kept_tower, laid_in, tower_in}
use Rattle.som_cmd_tower_run.specs.TowerRunAnswer.{IsTowerRunAnswer, ending_by, tower_means}
use Rattle.som_cmd_tower_run.specs.TowerRunEnds.{IsTowerUnder, RunsTowerAs, StandAbove, TellsLevelNotKept}
use Rattle.som_cmd_tower_run.proofs.Checked.{all_checked, tower}
use Rattle.som_cmd_tower_run.proofs.Laid.{with_images}

abbrev Found : Type 0
Found = ℕ × CompatBreach

-- ---- a level that is got and read

is_this_kind : (client : Bool) (l : Level) → l.client ≡ client → is_kind client l ≡ true
is_this_kind true l e = e
is_this_kind false l e = ap not e

of_this_kind : (client : Bool) (l : Level) → l.client ≡ client → of_kind client l ≡ Ok l
of_this_kind client l e = ap (λ (b : Bool). if b then Ok l else Err (faults.Tag 6)) (is_this_kind client l e)

at_place : (n : ℕ) (client : Bool) (l : Level) → length l.sizes ≡ n → l.client ≡ client → in_place n client l ≡ Ok l
at_place n client l levels kind = ap (λ (b : Bool). if b then of_kind client l else Err (faults.Number 5)) (eq-eqb (length l.sizes) n levels) ∙ of_this_kind client l kind

abbrev levels : Release → List Level → LevelsBelow
levels base ls = record { base = base; uppers = ls }

module _ (files : Files) where
  one_read : (n : ℕ) (client : Bool) (name : List ℕ) (l : Level) (h : HoldsLevel files name l) → length l.sizes ≡ n → l.client ≡ client → level_read n client name h.bytes ≡ Ok l
  one_read n client name l h levels kind =
      ap (λ (x : Result Level ImageFault). read_or name (x >>= in_place n client)) (stored_read files name l h)
      ∙ ap (λ (x : Result Level ImageFault). read_or name x) (at_place n client l levels kind)

  -- ---- libraries one above the other

  abbrev bytes_of : (ns : List (List ℕ)) (ls : List Level) → AreLevelsUnder files ns ls → List (List ℕ)
  bytes_of [] [] u = []
  bytes_of [] (l ∷ ls) u = absurd u
  bytes_of (n ∷ ns) [] u = absurd u
  bytes_of (n ∷ ns) (l ∷ ls) u = u.0.holds.bytes ∷ bytes_of ns ls u.1

  uppers_there : (ns : List (List ℕ)) (ls : List Level) (u : AreLevelsUnder files ns ls) → images_in ns files ≡ Ok (bytes_of ns ls u)
  uppers_there [] [] u = refl
  uppers_there [] (l ∷ ls) u = absurd u
  uppers_there (n ∷ ns) [] u = absurd u
  uppers_there (n ∷ ns) (l ∷ ls) u =
      ap (λ (x : Result (List ℕ) Refusal). x >>= λ b. images_in ns files >>= λ bs. Ok (b ∷ bs)) (got_by (get files n) n u.0.holds.bytes u.0.holds.image_is)
      ∙ ap (λ (x : Result (List (List ℕ)) Refusal). x >>= λ bs. Ok (u.0.holds.bytes ∷ bs)) (uppers_there ns ls u.1)

  uppers_read : (levels : ℕ) (ns : List (List ℕ)) (ls : List Level) (u : AreLevelsUnder files ns ls) → StandAbove levels ls → uppers_in levels ns (bytes_of ns ls u) ≡ Ok ls
  uppers_read levels [] [] u s = refl
  uppers_read levels [] (l ∷ ls) u s = absurd u
  uppers_read levels (n ∷ ns) [] u s = absurd u
  uppers_read levels (n ∷ ns) (l ∷ ls) u s =
      ap (λ (x : Result Level Refusal). x >>= λ m. uppers_in (suc levels) ns (bytes_of ns ls u.1) >>= λ ms. Ok (m ∷ ms)) (one_read levels false n l u.0.holds s.0 s.1)
      ∙ ap (λ (x : Result (List Level) Refusal). x >>= λ ms. Ok (l ∷ ms)) (uppers_read (suc levels) ns ls u.1 s.2)

  uppers_conform : (ns : List (List ℕ)) (ls : List Level) → AreLevelsUnder files ns ls → each_passes level_rules_kept ns ls ≡ Ok tt
  uppers_conform [] [] u = refl
  uppers_conform [] (l ∷ ls) u = absurd u
  uppers_conform (n ∷ ns) [] u = absurd u
  uppers_conform (n ∷ ns) (l ∷ ls) u = ap (λ (o : Option RuleBreach). kept_or n o >>= λ passed. each_passes level_rules_kept ns ls) (conforms_program l.program u.0.conforms) ∙ uppers_conform ns ls u.1

  -- ---- and the library below them

  -- the images of levels, of which there is one at least, are got and read, and none breaks a rule
  record AreThere (below : List (List ℕ)) (base : Release) (ls : List Level) : Type 0 where
    images : List (List ℕ)
    got : images_in below files ≡ Ok images
    read : levels_in below images ≡ Ok (levels base ls)
    kept : levels_rules_kept below (levels base ls) ≡ Ok tt

  base_read : (name : List ℕ) (base : Release) (u : IsUnder files name base) → release_in name u.bytes ≡ Ok base
  base_read name base u = ap (λ (x : Result Release ImageFault). read_or name x) (library_read u.bytes (Ok base) u.bytes_are (library_again u.bytes base u.spelled))

  base_kept : (name : List ℕ) (base : Release) (u : IsUnder files name base) → rules_kept name base ≡ Ok tt
  base_kept name base u = ap (λ (o : Option RuleBreach). kept_or name o) (conforms_release base u.conforms)

  all_there : (below : List (List ℕ)) → 1 ≤ length below → (base : Release) (ls : List Level) → IsUnder files (name_at below 0) base → AreLevelsUnder files (drop 1 below) ls → StandAbove 1 ls → AreThere below base ls
  all_there [] some base ls u us s = absurd (omega (arith, some))
  all_there (n ∷ ns) some base ls u us s = record {
    images = u.bytes ∷ bytes_of ns ls us;
    got = ap (λ (x : Result (List ℕ) Refusal). x >>= λ b. images_in ns files >>= λ bs. Ok (b ∷ bs)) (got_by (get files n) n u.bytes u.image_is)
        ∙ ap (λ (x : Result (List (List ℕ)) Refusal). x >>= λ bs. Ok (u.bytes ∷ bs)) (uppers_there ns ls us);
    read = ap (λ (x : Result Release Refusal). x >>= λ r. uppers_in 1 ns (bytes_of ns ls us) >>= λ ms. Ok (levels r ms)) (base_read n base u)
        ∙ ap (λ (x : Result (List Level) Refusal). x >>= λ ms. Ok (levels base ms)) (uppers_read 1 ns ls us s);
    kept = ap (λ (x : Result (Unit {0}) Refusal). x >>= λ kept. each_passes level_rules_kept ns ls) (base_kept n base u) ∙ uppers_conform ns ls us;
  }

module _ (files : Files) (c : List ℕ) (below : List (List ℕ)) (base : Release) (uppers : List Level) (t : Level) (u : IsTowerUnder files c below base uppers t) where
  abbrev all : Tower
  all = tower (levels base uppers) t

  abbrev broken_by : Option Found
  broken_by = tower_break (interface_of base ∷ []) (programs_above uppers t)

  there : AreThere files below base uppers
  there = all_there files below (let few = u.top.holds.fits.some in let many = u.levels in omega (arith, few, many)) base uppers u.release u.libraries u.stand

  client_kept : program_rules_kept c t.program ≡ Ok tt
  client_kept = ap (λ (o : Option RuleBreach). kept_or c o) (conforms_program t.program u.top.conforms)

  tower_there : tower_in c below files ≡ Ok all
  tower_there =
      sym (with_images files c below u.top.holds.bytes there.images (got_by (get files c) c u.top.holds.bytes u.top.holds.image_is) there.got)
      ∙ all_checked c below u.top.holds.bytes there.images t (levels base uppers) tt tt (one_read files (length below) true c t u.top.holds u.levels u.is_client) there.read there.kept client_kept

  -- ---- nothing is in the way, unless a level doesn't keep something

  abbrev kept_by : Option Found → Result Tower Refusal
  kept_by o = level_kept_or below o >>= λ kept. Ok all

  laid_by : (o : Option Found) → broken_by ≡ o → laid_in c below files ≡ kept_by o
  laid_by o e = ap (λ (x : Result Tower Refusal). x >>= kept_tower below) tower_there ∙ ap kept_by e

  -- ---- the end of the call

  module _ (fuel status : ℕ) (new_files : Option Files) (old new : Option (List ℕ)) (e : EndsAs (IsTowerRunAnswer c below fuel files) status new_files old new) where
    ending_is : (o : Option Found) → broken_by ≡ o → e.told ≡ ending_by fuel files (kept_by o)
    ending_is o is = e.is_answer ∙ ap (ending_by fuel files) (laid_by o is)

    -- it is that of what the client means
    pub means_by : broken_by ≡ None → RunsTowerAs base uppers t fuel status old new
    means_by none =
        let same : e.told ≡ ran no_trace files (tower_means base uppers t fuel) = ending_is None none in
        record {
          text = subst (λ (x : Ending). ShowsAll old new x.text) same e.text_is;
          status_is = e.status_is ∙ ap (λ (x : Ending). x.status) same;
        }

    -- or tells what isn't kept
    pub unkept_by : (level : ℕ) (b : CompatBreach) → broken_by ≡ Some (level, b) → TellsLevelNotKept below level b status old new
    unkept_by level b is =
        let same : e.told ≡ refusing files (not_kept (name_at below level) b) = ending_is (Some (level, b)) is in
        record {
          text = subst (λ (x : Ending). ShowsAll old new x.text) same e.text_is;
          status_is = e.status_is ∙ ap (λ (x : Ending). x.status) same;
        }

  -- what was written before the call was cut short is a front of what the client means
  pub front_by : (fuel : ℕ) (e : Ending) → IsTowerRunAnswer c below fuel files e → broken_by ≡ None → e ≡ ran no_trace files (tower_means base uppers t fuel)
  front_by fuel e is none = is ∙ ap (ending_by fuel files) (laid_by None none)
