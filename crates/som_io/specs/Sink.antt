-- What a sink answers, and what a write leaves.
use Rattle.std.specs.Prelude.{◌≡◌, ℕ, ◌<◌, ◌≤◌, ⊤, List, ◌++◌, length, take, Option, Some, None}
use Rattle.som_io.specs.Outside.{Rose}
use Rattle.som_io.specs.declared.sink.Sent.{Sent}
use Rattle.som_io.specs.declared.sink.Sent.TheVariants as sent

-- no more bytes of a piece are taken than it has, and one at least of a piece that isn't empty
abbrev pub Takes : List ℕ → Sent → Type 0
Takes piece (sent.Bytes count) = (count ≤ length piece) × (0 < length piece → 0 < count)
Takes piece answer = ⊤

-- what was written, where it is told, after a write of the piece: the bytes taken come at its end
abbrev pub Appends : Option (List ℕ) → Option (List ℕ) → List ℕ → Sent → Type 0
Appends None new piece answer = ⊤
Appends (Some old) new piece (sent.Bytes count) = new ≡ Some (old ++ take count piece)
Appends (Some old) new piece answer = new ≡ Some old

-- a write fails only where the count of faults rose
abbrev pub WriteHasCause : ℕ → ℕ → Sent → Type 0
WriteHasCause before now sent.Failed = Rose before now
WriteHasCause before now answer = ⊤
