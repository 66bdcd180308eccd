-- What sending a line leaves.
use Rattle.std.specs.Prelude.{ℕ, ⊤, List, Option}
use Rattle.som_io.specs.Outside.{Rose, ShowsAll, ShowsFront}
use Rattle.som_io.specs.declared.line.Sending.{Sending}
use Rattle.som_io.specs.declared.line.Sending.TheVariants as sending

-- the line was written whole, or else a front of it
abbrev pub SendsLine : Option (List ℕ) → Option (List ℕ) → List ℕ → Sending → Type 0
SendsLine old new line sending.Whole = ShowsAll old new line
SendsLine old new line sending.Failed = ShowsFront old new line
SendsLine old new line sending.NoMemory = ShowsFront old new line

-- sending fails only where the count of faults rose
abbrev pub SendHasCause : ℕ → ℕ → Sending → Type 0
SendHasCause before now sending.Failed = Rose before now
SendHasCause before now answer = ⊤
