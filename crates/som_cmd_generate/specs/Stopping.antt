-- What stops the command where nothing comes of the texts.
use Rattle.std.specs.Prelude.{◌≡◌}
use Rattle.som_cmd_steps.specs.declared.stop.CommandStop.{CommandStop}
use Rattle.som_cmd_steps.specs.declared.stop.CommandStop.TheVariants as stops
use Rattle.som_generator.specs.declared.fault.MakeFault.{MakeFault}
use Rattle.som_generator.specs.declared.fault.MakeFault.TheVariants as faults
use Rattle.som_cmd_generate.specs.GenerateAnswer.{unmade_told}

-- the step that refuses is told, and nothing else is
abbrev pub StopsFor : MakeFault → CommandStop → Type 0
StopsFor (faults.Unmade u) (stops.Refused r) = r ≡ unmade_told u
StopsFor (faults.Unmade u) (stops.StoreFailed line) = ⊥
StopsFor (faults.Unmade u) stops.NoMemory = Unit {0}
StopsFor faults.NoMemory stop = stop ≡ stops.NoMemory
