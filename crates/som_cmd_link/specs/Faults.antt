-- How a fault of linking is told.
use Rattle.std.specs.Prelude.{◌≡◌, ℕ, List, true, false, Option, Some, None}
use Rattle.som_verify_classes.specs.Told.{told}
use Rattle.som_link_check.specs.declared.fault.LinkFault.{LinkFault}
use Rattle.som_link_check.specs.declared.fault.LinkFault.TheVariants as faults
use Rattle.som_cmd_steps.specs.declared.stop.Refusal.{Refusal}
use Rattle.som_cmd_steps.specs.declared.stop.CommandStop.{CommandStop}
use Rattle.som_cmd_steps.specs.declared.stop.CommandStop.TheVariants as stops
use Rattle.som_cmd_steps.specs.Lines.{broken, incompatible}

-- under the name of the image whose fault it is; want of memory isn't told
abbrev pub fault_told : List ℕ → List ℕ → LinkFault → Option Refusal
fault_told client library (faults.NotConforming true rule) = Some (broken client (told rule))
fault_told client library (faults.NotConforming false rule) = Some (broken library (told rule))
fault_told client library (faults.Incompatible rule class name place) = Some (incompatible library rule class name place)
fault_told client library faults.NoMemory = None

-- what is told is refused, unless memory ran out
abbrev pub Refuses : Option Refusal → CommandStop → Type 0
Refuses told (stops.Refused r) = told ≡ Some r
Refuses told (stops.StoreFailed line) = ⊥
Refuses told stops.NoMemory = Unit {0}
