-- A task that is stopped and gone on with.
use Rattle.std.specs.Prelude.{ℕ, ◌+◌}
use Rattle.som_semantics.specs.State.{State}
use Rattle.som_semantics.specs.Runs.{Ran, Act, with_more}
use Rattle.som_code.specs.Machine.{After, ComesTo}

-- a machine that has come there, with this left of the fuel, these events so far and these objects, stands for a meaning of which so many units were granted: with any number of units more it comes to the meaning with as many more than were granted
pub record Stands {C V : Type 0} (step : C → Act (After C V)) (means : ℕ → Ran V) (c : C) (s : State) (granted : ℕ) : Type 0 where
  pub by : (f : ℕ) → ComesTo step c (with_more f s) (means (granted + f))
