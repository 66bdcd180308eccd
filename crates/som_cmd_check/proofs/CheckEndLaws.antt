-- How the end of a call that checks images is that of its answer.
use Rattle.std.proofs.Common.{◌≡◌, ℕ, List, arith, Option, Some, None, refl, ◌≤◌, length}
use Rattle.som_model.specs.declared.program.Release.{Release}
use Rattle.som_model.specs.Bytes.{Files}
use Rattle.som_model.specs.Compatible.{Accepted, CompatBreach}
use Rattle.som_order.specs.Names.{name_at}
use Rattle.som_cmd_steps.proofs.OutcomeLaws.{text_of, status_is}
use Rattle.som_cmd_steps.specs.Endings.{Ending, refusing}
use Rattle.som_cmd_steps.specs.Lines.{not_kept}
use Rattle.som_cmd_steps.specs.Outcomes.{EndsAs}
use Rattle.som_cmd_check.proofs.CheckLaws.{one_check_answer}
use Rattle.som_cmd_check.proofs.CheckMeaning.{under_conform, accepted_if, none_if, accepts_under, refuses_under}
use Rattle.som_cmd_check.specs.CheckAnswer.{IsCheckAnswer, first_not_kept, accepting}
use Rattle.som_cmd_check.specs.CheckEnds.{TellsAccepted, TellsBreach, AreUnder}

never_both : (rs : List Release) (number : ℕ) (b : CompatBreach) → first_not_kept rs ≡ None → first_not_kept rs ≡ Some (number, b) → ⊥
never_both rs number b e f = cc

not_zero : (status : ℕ) → status ≡ 0 → status ≡ 4 → ⊥
not_zero status e f = omega arith

module _ (names : List (List ℕ)) (files : Files) (status : ℕ) (new_files : Option Files) (old new : Option (List ℕ)) (e : EndsAs (IsCheckAnswer names files) status new_files old new) (rs : List Release) (two : 2 ≤ length rs) (under : AreUnder files names rs) where
  abbrev one : (a b : Ending) → IsCheckAnswer names files a → IsCheckAnswer names files b → a ≡ b
  one a b x y = one_check_answer files names a b x y

  -- it tells what isn't kept
  pub breach_by : (number : ℕ) (b : CompatBreach) → first_not_kept rs ≡ Some (number, b) → TellsBreach names number b status old new
  breach_by number b told =
      let ending : Ending = refusing files (not_kept (name_at names number) b) in
      let is = refuses_under files names rs number b under told in
      record {
        text = text_of (IsCheckAnswer names files) one status new_files old new e ending is;
        status_is = status_is (IsCheckAnswer names files) one status new_files old new e ending is;
      }

  accepts_so : (o : Option (ℕ × CompatBreach)) → first_not_kept rs ≡ o → TellsAccepted rs status old new
  accepts_so None none =
      let is = accepts_under files names rs under none in
      record {
        status_is = λ _. status_is (IsCheckAnswer names files) one status new_files old new e (accepting files) is;
        text = λ _. text_of (IsCheckAnswer names files) one status new_files old new e (accepting files) is;
        only = λ _. accepted_if rs two (under_conform files names rs under) none;
      }
  accepts_so (Some (number, b)) told =
      let never : Accepted rs → ⊥ = λ a. never_both rs number b (none_if rs a) told in
      record {
        status_is = λ a. absurd (never a);
        text = λ a. absurd (never a);
        only = λ zero. absurd (not_zero status zero (breach_by number b told).status_is);
      }

  -- it accepts exactly the lists that are to be accepted
  pub accepted_by : TellsAccepted rs status old new
  accepted_by = accepts_so (first_not_kept rs) refl
