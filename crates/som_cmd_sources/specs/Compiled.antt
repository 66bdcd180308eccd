-- What compiling texts answers in a command.
use Rattle.std.specs.Prelude.{◌≡◌, ℕ, List, Result, Ok, Err}
use Rattle.som_sources.specs.declared.fault.TextFault.{TextFault}
use Rattle.som_sources.specs.declared.fault.CompileFault.{CompileFault}
use Rattle.som_sources.specs.declared.fault.CompileFault.TheVariants as compiling
use Rattle.som_cmd_steps.specs.declared.stop.CommandStop.{CommandStop}
use Rattle.som_cmd_steps.specs.declared.stop.CommandStop.TheVariants as stops
use Rattle.som_cmd_sources.specs.Texts.{text_refused}

-- what is wrong with texts is refused, and nothing else is
abbrev pub Refuses : CompileFault → CommandStop → Type 0
Refuses (compiling.Text w) (stops.Refused r) = r ≡ text_refused w
Refuses (compiling.Text w) (stops.StoreFailed line) = ⊥
Refuses (compiling.Text w) stops.NoMemory = Unit {0}
Refuses compiling.NoMemory stop = stop ≡ stops.NoMemory

-- what the code compiles something to is what it is compiled to, unless memory ran out
abbrev pub Compiled : (Result (List ℕ) TextFault → Type 0) → Result (List ℕ) CommandStop → Type 0
Compiled Told (Ok image) = Told (Ok image)
Compiled Told (Err (stops.Refused r)) = (w : TextFault) × Told (Err w) × (r ≡ text_refused w)
Compiled Told (Err (stops.StoreFailed line)) = ⊥
Compiled Told (Err stops.NoMemory) = Unit {0}
