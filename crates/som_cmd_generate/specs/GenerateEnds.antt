-- How a call ends that generates, where all is made.
use Rattle.std.specs.Prelude.{◌≡◌, ℕ, List, Option}
use Rattle.som_semantics.specs.RunText.{run_status}
use Rattle.som_io.specs.Outside.{ShowsAll}
use Rattle.som_generator.specs.declared.made.Made.{Made}
use Rattle.som_cmd_generate.specs.GenerateAnswer.{client_run, generated_text}

-- what was written is how many classes there are, what the client means on the second release, and what is left of the fuel if its main is over; and the status is that meaning's
pub record TellsGenerated (n : ℕ) (m : Made) (status : ℕ) (old new : Option (List ℕ)) : Type 0 where
  pub text : ShowsAll old new (generated_text n (client_run m))
  pub status_is : status ≡ run_status (client_run m)
