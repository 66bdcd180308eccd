-- How the end of a call of `tower check` is that of its answer.
use Rattle.std.proofs.Common.{◌≡◌, ℕ, if◌then◌else◌, not, false, Bool, List, length, Option, Some, None, Result, Ok, Err, refl, sym, ap, ◌∙◌, arith}
use Rattle.std.proofs.lemmas.Bool.{eq-eqb}
use Rattle.som_model.specs.Bytes.{Files}
use Rattle.som_model.specs.Compatible.{CompatBreach}
use Rattle.som_model.specs.Rules.{RuleBreach}
use Rattle.som_model.specs.Steps.{◌>>=◌}
use Rattle.som_image_fields.specs.declared.fault.ImageFault.{ImageFault}
use Rattle.som_image_fields.specs.declared.fault.ImageFault.TheVariants as faults
use Rattle.som_level_laws.proofs.Breaks.{kept_none, none_kept}
use Rattle.som_towerimage.specs.declared.level.Level.{Level}
use Rattle.som_verify.proofs.Conforming.{conforms_program}
use Rattle.som_cmd_steps.specs.Endings.{Ending}
use Rattle.som_cmd_steps.specs.ImageSteps.{kept_or, program_rules_kept, read_or}
use Rattle.som_cmd_steps.specs.Lines.{not_kept}
use Rattle.som_cmd_steps.specs.Outcomes.{EndsAs}
use Rattle.som_cmd_steps.proofs.FileLaws.{got_by}
use Rattle.som_cmd_steps.proofs.OutcomeLaws.{status_is, text_of}
use Rattle.som_cmd_levels.specs.LevelImages.{in_place, level_read, of_kind, upper_read}
use Rattle.som_cmd_levels.specs.StoredLevels.{IsLevelUnder}
use Rattle.som_cmd_levels.proofs.Stored.{stored_read, stored_within}
use Rattle.som_cmd_tower_check.specs.Libraries.{IsSoundLibrary, promised}
use Rattle.som_cmd_tower_check.specs.TowerCheckAnswer.{IsTowerCheckAnswer, accepted_line, accepted_or, first_lost, line_ending, line_told}
use Rattle.som_cmd_tower_check.specs.TowerCheckEnds.{AreLibrariesUnder, IsKeptBy, TellsLevelAccepted, TellsLevelBreach}
use Rattle.som_cmd_tower_check.proofs.CheckLaws.{one_tower_check_answer}
use Rattle.som_cmd_tower_check.proofs.Getting.{with_both}
use Rattle.som_cmd_tower_check.proofs.Promising.{loads}
use Rattle.som_cmd_tower_check.proofs.Reading.{with_both as both_images, with_new}

-- a library is of its kind, and at its place
of_library : (l : Level) → l.client ≡ false → of_kind false l ≡ Ok l
of_library l e = ap (λ (b : Bool). if not b then Ok l else Err (faults.Tag 6)) e

at_place : (below : ℕ) (l : Level) → l.client ≡ false → length l.sizes ≡ below → in_place below false l ≡ Ok l
at_place below l e at = ap (λ (b : Bool). if b then of_kind false l else Err (faults.Number 5)) (eq-eqb (length l.sizes) below at) ∙ of_library l e

kept_so : (name : List ℕ) (files : Files) (l : Level) → IsLevelUnder files name l → program_rules_kept name l.program ≡ Ok tt
kept_so name files l u = ap (λ (o : Option RuleBreach). kept_or name o) (conforms_program l.program u.conforms)

read_so : (name : List ℕ) (read : Result Level ImageFault) (after : Level → Result Level ImageFault) (l : Level) → read ≡ Ok l → after l ≡ Ok l → read_or name (read >>= after) ≡ Ok l
read_so name read after l f g = ap (λ (x : Result Level ImageFault). read_or name (x >>= after)) f ∙ ap (λ (x : Result Level ImageFault). read_or name x) g

sound : (files : Files) (name : List ℕ) (l : Level) → IsLevelUnder files name l → l.client ≡ false → IsSoundLibrary l
sound files name l u library = record { read = record { fits = u.holds.fits; within = stored_within files name l u.holds; library = library }; conforms = u.conforms }

module _ (files : Files) (old new : List ℕ) (o n : Level) (under : AreLibrariesUnder files old new o n) where
  old_read : upper_read old under.old_under.holds.bytes ≡ Ok o
  old_read = read_so old _ (of_kind false) o (stored_read files old o under.old_under.holds) (of_library o under.old_library)

  new_read : level_read (length o.sizes) false new under.new_under.holds.bytes ≡ Ok n
  new_read = read_so new _ (in_place (length o.sizes) false) n (stored_read files new n under.new_under.holds) (at_place (length o.sizes) n under.new_library under.alike)

  -- the steps come to what is compared
  compared_so : accepted_or new (first_lost o n) ≡ line_told old new files
  compared_so =
      with_new old new o n tt tt (kept_so old files o under.old_under) (kept_so new files n under.new_under)
      ∙ both_images old new under.old_under.holds.bytes under.new_under.holds.bytes o n old_read new_read
      ∙ with_both old new files under.old_under.holds.bytes under.new_under.holds.bytes (got_by _ old under.old_under.holds.bytes under.old_under.holds.image_is) (got_by _ new under.new_under.holds.bytes under.new_under.holds.image_is)

  answer_so : (lost : Option (ℕ × CompatBreach)) → first_lost o n ≡ lost → IsTowerCheckAnswer old new files (line_ending files (accepted_or new lost))
  answer_so lost e = ap (λ (x : Option (ℕ × CompatBreach)). line_ending files (accepted_or new x)) (sym e) ∙ ap (line_ending files) compared_so

  kept_by : first_lost o n ≡ None → IsKeptBy o n
  kept_by e = none_kept (promised o) (promised n) (loads o (sound files old o under.old_under under.old_library)).ordered (loads n (sound files new n under.new_under under.new_library)).ordered e

  by_kept : IsKeptBy o n → first_lost o n ≡ None
  by_kept k = kept_none (promised o) (promised n) (loads o (sound files old o under.old_under under.old_library)).ordered (loads n (sound files new n under.new_under under.new_library)).ordered k

never_both : (lost : Option (ℕ × CompatBreach)) (found : ℕ × CompatBreach) → lost ≡ None → lost ≡ Some found → ⊥
never_both lost found e f = cc

not_zero : (status : ℕ) → status ≡ 0 → status ≡ 4 → ⊥
not_zero status e f = omega arith

module _ (old new : List ℕ) (files : Files) (status : ℕ) (new_files : Option Files) (before now : Option (List ℕ)) (e : EndsAs (IsTowerCheckAnswer old new files) status new_files before now) (o n : Level) (under : AreLibrariesUnder files old new o n) where
  abbrev one : (a b : Ending) → IsTowerCheckAnswer old new files a → IsTowerCheckAnswer old new files b → a ≡ b
  one a b x y = one_tower_check_answer files old new a b x y

  -- it tells what isn't kept
  pub level_breach_by : (found : ℕ × CompatBreach) → first_lost o n ≡ Some found → TellsLevelBreach new found.1 status before now
  level_breach_by found lost =
      let ending : Ending = line_ending files (Err (not_kept new found.1)) in
      let is : IsTowerCheckAnswer old new files ending = answer_so files old new o n under (Some found) lost in
      record {
        text = text_of (IsTowerCheckAnswer old new files) one status new_files before now e ending is;
        status_is = status_is (IsTowerCheckAnswer old new files) one status new_files before now e ending is;
      }

  accepts_so : (lost : Option (ℕ × CompatBreach)) → first_lost o n ≡ lost → TellsLevelAccepted o n status before now
  accepts_so None none =
      let ending : Ending = line_ending files (Ok accepted_line) in
      let is : IsTowerCheckAnswer old new files ending = answer_so files old new o n under None none in
      record {
        status_is = λ _. status_is (IsTowerCheckAnswer old new files) one status new_files before now e ending is;
        text = λ _. text_of (IsTowerCheckAnswer old new files) one status new_files before now e ending is;
        only = λ _. kept_by files old new o n under none;
      }
  accepts_so (Some found) lost =
      let never : IsKeptBy o n → ⊥ = λ k. never_both (first_lost o n) found (by_kept files old new o n under k) lost in
      record {
        status_is = λ k. absurd (never k);
        text = λ k. absurd (never k);
        only = λ zero. absurd (not_zero status zero (level_breach_by found lost).status_is);
      }

  -- it accepts exactly what is to be accepted
  pub level_accepted_by : TellsLevelAccepted o n status before now
  level_accepted_by = accepts_so (first_lost o n) refl
