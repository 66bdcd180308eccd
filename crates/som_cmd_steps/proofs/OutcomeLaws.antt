-- How the outcomes of a call by one answer are those by another.
use Rattle.std.proofs.Common.{◌≡◌, ℕ, List, Option, Some, None, ap, subst, ◌∙◌, inl, inr}
use Rattle.som_model.specs.Bytes.{Files}
use Rattle.som_io.specs.Outside.{ShowsAll}
use Rattle.som_cmd_steps.specs.Endings.{Ending}
use Rattle.som_cmd_steps.specs.Outcomes.{EndsAs, EndsAsTold, ShowsSome}
use Rattle.som_cmd_steps.specs.Answering.{Answering}

-- an ending of one answer is one of another that has it
pub ends_with : (A B : Ending → Type 0) → ((e : Ending) → A e → B e) → (status : ℕ) (files : Option Files) (old new : Option (List ℕ)) → EndsAs A status files old new → EndsAs B status files old new
ends_with A B into status files old new e = record { told = e.told; is_answer = into e.told e.is_answer; status_is = e.status_is; text_is = e.text_is; files_are = e.files_are }

pub told_with : (A B : Answering) → ((files : Files) (e : Ending) → A files e → B files e) → (files : Option Files) (status : ℕ) (new_files : Option Files) (old new : Option (List ℕ)) → EndsAsTold A files status new_files old new
    → EndsAsTold B files status new_files old new
told_with A B into None status new_files old new e = tt
told_with A B into (Some files) status new_files old new e = ends_with (A files) (B files) (into files) status new_files old new e

pub some_with : (A B : Answering) (is_line : List ℕ → Type 0) → ((files : Files) (e : Ending) → A files e → B files e) → (files : Option Files) (count now : ℕ) (old new : Option (List ℕ)) → ShowsSome A is_line files count now old new
    → ShowsSome B is_line files count now old new
some_with A B is_line into None count now old new s = tt
some_with A B is_line into (Some files) count now old new (inl (e, is, shows)) = inl (e, into files e is, shows)
some_with A B is_line into (Some files) count now old new (inr failed) = inr failed

-- where there is one answer at most, it is that of any other
module _ (IsAnswer : Ending → Type 0) (one : (a b : Ending) → IsAnswer a → IsAnswer b → a ≡ b) (status : ℕ) (new_files : Option Files) (old new : Option (List ℕ)) (e : EndsAs IsAnswer status new_files old new) (other : Ending) (is : IsAnswer other) where
  same_ending : e.told ≡ other
  same_ending = one e.told other e.is_answer is

  pub text_of : ShowsAll old new other.text
  text_of = subst (λ (x : Ending). ShowsAll old new x.text) same_ending e.text_is

  pub status_is : status ≡ other.status
  status_is = e.status_is ∙ ap (λ (x : Ending). x.status) same_ending

  pub files_of : new_files ≡ Some other.files
  files_of = e.files_are ∙ ap (λ (x : Ending). Some x.files) same_ending
