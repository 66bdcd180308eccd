-- What a call of a command comes to, on whatever way: relations between its status and what the store and the sink held before and after.
-- A command may write while it goes. One that makes its answer first and then prints it is a case of these, and so is each that is refused.
use Rattle.std.specs.Prelude.{ℕ, List, Option, Some, None, ◌≡◌, ◌⊎◌}
use Rattle.som_model.specs.Bytes.{Files}
use Rattle.som_io.specs.Outside.{Rose, ShowsAll, ShowsFront}
use Rattle.som_cmd_steps.specs.Endings.{Ending}
use Rattle.som_cmd_steps.specs.Answering.{Answering}

-- as the answer says: its status, all of its text, its files
pub record EndsAs (IsAnswer : Ending → Type 0) (status : ℕ) (files : Option Files) (old new : Option (List ℕ)) : Type 0 where
  pub told : Ending
  pub is_answer : IsAnswer told
  pub status_is : status ≡ told.status
  pub text_is : ShowsAll old new told.text
  pub files_are : files ≡ Some told.files

-- as the answer says over a store, where it told its files
abbrev pub EndsAsTold : Answering → Option Files → ℕ → Option Files → Option (List ℕ) → Option (List ℕ) → Type 0
EndsAsTold IsAnswer None status files old new = Unit {0}
EndsAsTold IsAnswer (Some before) status files old new = EndsAs (IsAnswer before) status files old new

-- the store has failed, and such a line that says so is all that was written
pub record StoreFails (is_line_of : List ℕ → Type 0) (before now : ℕ) (old new : Option (List ℕ)) : Type 0 where
  pub rose : Rose before now
  pub line : List ℕ
  pub is_line : is_line_of line
  pub written : ShowsAll old new line

-- a front of the answer's text was written, or, where the store has failed, of such a line that says so
abbrev pub ShowsSome : Answering → (List ℕ → Type 0) → Option Files → ℕ → ℕ → Option (List ℕ) → Option (List ℕ) → Type 0
ShowsSome IsAnswer is_line None before now old new = Unit {0}
ShowsSome IsAnswer is_line (Some files) before now old new =
    ((told : Ending) × IsAnswer files told × ShowsFront old new told.text)
    ⊎ (Rose before now × (line : List ℕ) × is_line line × ShowsFront old new line)
