-- When a step may say that the store failed, and with which line.
use Rattle.std.specs.Prelude.{ℕ, List, Result, Ok, Err}
use Rattle.som_io.specs.Outside.{Rose}
use Rattle.som_cmd_steps.specs.declared.stop.CommandStop.{CommandStop}
use Rattle.som_cmd_steps.specs.declared.stop.CommandStop.TheVariants as stops

abbrev pub StopHasCause : (List ℕ → Type 0) → ℕ → ℕ → CommandStop → Type 0
StopHasCause is_line before now (stops.StoreFailed line) = Rose before now × is_line line
StopHasCause is_line before now (stops.Refused r) = Unit {0}
StopHasCause is_line before now stops.NoMemory = Unit {0}

-- a step says that the store failed only where its count rose, and then with such a line
abbrev pub HasCause : {A : Type 0} → (List ℕ → Type 0) → ℕ → ℕ → Result A CommandStop → Type 0
HasCause is_line before now (Ok x) = Unit {0}
HasCause is_line before now (Err stop) = StopHasCause is_line before now stop

abbrev pub IsQuietStop : CommandStop → Type 0
IsQuietStop (stops.StoreFailed line) = ⊥
IsQuietStop (stops.Refused r) = Unit {0}
IsQuietStop stops.NoMemory = Unit {0}

-- a step doesn't say that the store failed
abbrev pub IsQuiet : {A : Type 0} → Result A CommandStop → Type 0
IsQuiet (Ok x) = Unit {0}
IsQuiet (Err stop) = IsQuietStop stop
