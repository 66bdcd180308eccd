-- What the main of a linked kernel comes to.
use Rattle.std.specs.Prelude.{◌≡◌, ◌≢◌, ℕ, Bool, List, Option}
use Rattle.som_model.specs.declared.syntax.Block.{Block}
use Rattle.som_semantics.specs.Means.{means_in}
use Rattle.som_semantics.specs.RunText.{run_status, run_text}
use Rattle.som_semantics.specs.World.{World}
use Rattle.som_io.specs.Outside.{Rose, ShowsAll, ShowsFront}
use Rattle.som_interp_task.specs.Run.{EndsSo, IfRan}
use Rattle.som_interp_task.specs.declared.outcome.Outcome.{Outcome}
use Rattle.som_interp_task.specs.declared.outcome.Outcome.TheVariants as outcomes

-- the outcome is the end of what main means, with so much fuel, among classes that answer so, and all of its text was written; where memory was wanting, or the sink failed, whose count rose then, a front of it
pub record RunsTraced (w : World) (main : Block) (fuel : ℕ) (shows : List ℕ → Bool) (before now : ℕ) (old new : Option (List ℕ)) (outcome : Outcome) : Type 0 where
  pub ended : EndsSo (means_in w main fuel) outcome
  pub text : IfRan outcome (ShowsAll old new (run_text shows (means_in w main fuel)))
  pub front : ShowsFront old new (run_text shows (means_in w main fuel))
  pub cause : outcome ≡ outcomes.SinkFailed → Rose before now

-- the status of an outcome
abbrev pub outcome_status : Outcome → ℕ
outcome_status outcomes.Done = 0
outcome_status (outcomes.SourceFault fault at) = 1
outcome_status outcomes.Spent = 9
outcome_status outcomes.SinkFailed = 8
outcome_status outcomes.NoMemory = 10

-- main ends with a status: that of the meaning's end, 8 where the sink failed, or 10 for want of memory
pub record EndsMain (w : World) (main : Block) (fuel : ℕ) (shows : List ℕ → Bool) (before now : ℕ) (old new : Option (List ℕ)) (status : ℕ) : Type 0 where
  pub ended : status ≢ 8 → status ≢ 10 → status ≡ run_status (means_in w main fuel)
  pub text : status ≢ 8 → status ≢ 10 → ShowsAll old new (run_text shows (means_in w main fuel))
  pub front : ShowsFront old new (run_text shows (means_in w main fuel))
  pub cause : status ≡ 8 → Rose before now
