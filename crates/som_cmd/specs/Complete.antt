-- How a call ends in which neither the store nor the sink failed.
use Rattle.std.specs.Prelude.{◌≡◌, ◌⊎◌, ℕ, List, Option, Some, None}
use Rattle.som_model.specs.Bytes.{Files}
use Rattle.som_io.specs.Outside.{ShowsFront}
use Rattle.som_cmd_steps.specs.Endings.{Ending}
use Rattle.som_cmd_steps.specs.Outcomes.{EndsAs}
use Rattle.som_cmd.specs.Words.{Asked}
use Rattle.som_cmd.specs.Answer.{IsAnswer}

-- memory ran out: a front of the answer's text was written, and the files are as they were
pub record WantsMemory (files : Files) (asked : Asked) (status : ℕ) (new_files : Option Files) (old new : Option (List ℕ)) : Type 0 where
  pub told : Ending
  pub is_answer : IsAnswer files asked told
  pub status_is : status ≡ 10
  pub front : ShowsFront old new told.text
  pub files_are : new_files ≡ Some files

-- as the answer says: its status, all of its text, its files; or memory ran out; over a store, where it told its files
abbrev pub EndsOrWants : Asked → Option Files → ℕ → Option Files → Option (List ℕ) → Option (List ℕ) → Type 0
EndsOrWants asked None status new_files old new = Unit {0}
EndsOrWants asked (Some files) status new_files old new = EndsAs (IsAnswer files asked) status new_files old new ⊎ WantsMemory files asked status new_files old new
