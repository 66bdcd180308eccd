-- What a put leaves, by what the step answers that puts.
use Rattle.std.proofs.Common.{ℕ, List, Option, Some, None, Result, Ok, Err}
use Rattle.som_model.specs.Bytes.{Files}
use Rattle.som_cmd_steps.specs.declared.output.Output.{Output}
use Rattle.som_cmd_steps.specs.declared.stop.Refusal.{Refusal}
use Rattle.som_cmd_steps.specs.Putting.{IsSilent, StoredTold}
use Rattle.som_cmd_steps.specs.declared.stop.CommandStop.TheVariants as stops
use Rattle.som_cmd_build.specs.declared.putting.FailedPut.{FailedPut}
use Rattle.som_cmd_build.specs.declared.putting.PutEnd.TheVariants as ends
use Rattle.som_cmd_build.specs.PutSteps.{PlacedTold}

-- it is done
pub image_placed : (files : Option Files) (out image : List ℕ) (o : Output) (new : Option Files) → StoredTold files out image (Ok o) new → PlacedTold files out image (Ok ends.Done) new
image_placed None out image o new s = tt
image_placed (Some before) out image o new s = s.1

-- it failed
pub image_failed : (files : Option Files) (out image line : List ℕ) (put : FailedPut) (new : Option Files) → StoredTold files out image (Err (stops.StoreFailed line)) new → PlacedTold files out image (Ok (ends.Failed put)) new
image_failed None out image line put new s = tt
image_failed (Some before) out image line put new s = s

-- nothing is refused
pub none_refused : (files : Option Files) (out image : List ℕ) (r : Refusal) (new : Option Files) → IsSilent (Err (stops.Refused r)) → PlacedTold files out image (Err (stops.Refused r)) new
none_refused files out image r new silent = absurd silent

-- memory ran out before
pub none_placed : (files : Option Files) (out image : List ℕ) (new : Option Files) → StoredTold files out image (Err stops.NoMemory) new → PlacedTold files out image (Err stops.NoMemory) new
none_placed None out image new s = tt
none_placed (Some before) out image new s = s
