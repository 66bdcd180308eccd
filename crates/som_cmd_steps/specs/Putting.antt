-- What putting an image under a name answers and leaves.
use Rattle.std.specs.Prelude.{◌≡◌, ◌⊎◌, ℕ, List, [], Option, Some, None, Result, Ok, Err}
use Rattle.std.specs.FinMap.{insert, remove}
use Rattle.som_model.specs.Bytes.{Files}
use Rattle.som_cmd_steps.specs.declared.output.Output.{Output}
use Rattle.som_cmd_steps.specs.declared.stop.CommandStop.{CommandStop}
use Rattle.som_cmd_steps.specs.declared.output.End.TheVariants as the_end
use Rattle.som_cmd_steps.specs.declared.stop.CommandStop.TheVariants as stops

-- after a put that failed the name has the old bytes, the image or nothing, and no other name is changed
abbrev pub PutFails : Files → List ℕ → List ℕ → Option Files → Type 0
PutFails files out image new = (new ≡ Some files) ⊎ (new ≡ Some (insert files out image)) ⊎ (new ≡ Some (remove files out))

-- nothing is printed
abbrev pub nothing : Output
nothing = record { lines = []; end = the_end.Done }

-- what putting an image under a name answers and leaves
abbrev pub Stored : Files → List ℕ → List ℕ → Result Output CommandStop → Option Files → Type 0
Stored files out image (Ok o) new = (o ≡ nothing) × (new ≡ Some (insert files out image))
Stored files out image (Err (stops.Refused r)) new = ⊥
Stored files out image (Err (stops.StoreFailed line)) new = PutFails files out image new
Stored files out image (Err stops.NoMemory) new = new ≡ Some files

-- what putting an image under a name answers and leaves over a store, where it tells its files
abbrev pub StoredTold : Option Files → List ℕ → List ℕ → Result Output CommandStop → Option Files → Type 0
StoredTold None out image result new = Unit {0}
StoredTold (Some files) out image result new = Stored files out image result new

-- nothing is printed, and nothing is refused
abbrev pub IsSilent : Result Output CommandStop → Type 0
IsSilent (Ok o) = o ≡ nothing
IsSilent (Err (stops.Refused r)) = ⊥
IsSilent (Err (stops.StoreFailed line)) = Unit {0}
IsSilent (Err stops.NoMemory) = Unit {0}
