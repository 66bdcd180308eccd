-- What `generate` comes to, whatever a store tells.
use Rattle.std.specs.Prelude.{◌≡◌, ◌≢◌, ◌⊎◌, ℕ, List, Option, Some}
use Rattle.som_model.specs.Bytes.{Files}
use Rattle.som_cmd_steps.specs.Outcomes.{EndsAs}
use Rattle.som_generator.specs.declared.made.Made.{Made}
use Rattle.som_generator.specs.Making.{IsMade}
use Rattle.som_cmd_generate.specs.GenerateAnswer.{IsGenerateAnswer}
use Rattle.som_cmd_generate.specs.Printing.{ShowsSomeOf}
use Rattle.som_cmd.specs.Words.{Asked, Run, Show, Check, Library, Client, Tasks, Witness, Generate, Tower, Bad}

-- with memory and without a fault of the sink it ends as its answer says, whatever files there are, which stay; else a front of that text was written
pub record Generates (count status : ℕ) (old new : Option (List ℕ)) : Type 0 where
  pub whole : status ≢ 8 → status ≢ 10 → (files : Files) → EndsAs (IsGenerateAnswer count files) status (Some files) old new
  pub front : (status ≡ 8) ⊎ (status ≡ 10) → (files : Files) → ShowsSomeOf (IsGenerateAnswer count files) old new

-- so it is where that is asked for
abbrev pub GeneratesAsked : Asked → ℕ → Option (List ℕ) → Option (List ℕ) → Type 0
GeneratesAsked (Generate count) status old new = Generates count status old new
GeneratesAsked (Run client library fuel shows) status old new = Unit {0}
GeneratesAsked (Show image) status old new = Unit {0}
GeneratesAsked (Check images) status old new = Unit {0}
GeneratesAsked (Library out names) status old new = Unit {0}
GeneratesAsked (Client out library names) status old new = Unit {0}
GeneratesAsked (Tasks library turns clients) status old new = Unit {0}
GeneratesAsked (Witness out older newer) status old new = Unit {0}
GeneratesAsked (Tower what) status old new = Unit {0}
GeneratesAsked Bad status old new = Unit {0}

-- so many classes are to be generated, and this is what is made of them
pub record IsMadeFor (asked : Asked) (count : ℕ) (m : Made) : Type 0 where
  pub asked_is : asked ≡ Generate count
  pub made : IsMade count m
