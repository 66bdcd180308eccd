-- How a call may end.
use Rattle.std.specs.Prelude.{ℕ, List}
use Rattle.som_model.specs.Bytes.{Files}
use Rattle.som_cmd_steps.specs.declared.stop.Refusal.{Refusal}
use Rattle.som_cmd_steps.specs.Status.{status_of}

-- the text that is printed, the status, and the files afterwards
pub record Ending : Type 0 where
  pub text : List ℕ
  pub status : ℕ
  pub files : Files

abbrev pub refusing : Files → Refusal → Ending
refusing files r = record { text = r.line; status = status_of r.why; files = files }
