-- A run as a sink was told it.
use Rattle.std.specs.Prelude.{◌≡◌, ℕ, Bool, List}
use Rattle.som_semantics.specs.Runs.{Ran, Goes, Ends, Out, Kept, KGoes, KEnds}
use Rattle.som_semantics.specs.RunText.{kept_lines}

-- what is kept of a run: its end, its fuel and its objects; and of its events, their lines after what was told before, and their calls counted
abbrev pub IsToldAs : {A : Type 0} → (List ℕ → Bool) → List ℕ → Out → Ran A → Kept A → Type 0
IsToldAs shows prefix o (Goes a s) k = k ≡ KGoes a (record { fuel = s.fuel; out = kept_lines shows prefix o s.events; heap = s.heap })
IsToldAs shows prefix o (Ends c s) k = k ≡ KEnds c (record { fuel = s.fuel; out = kept_lines shows prefix o s.events; heap = s.heap })
