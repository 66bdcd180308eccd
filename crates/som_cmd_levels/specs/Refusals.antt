-- What commands of towers may refuse.
use Rattle.std.specs.Prelude.{◌≡◌, ◌≢◌, ◌⊎◌, ℕ, List}
use Rattle.som_model.specs.Compatible.{CompatBreach}
use Rattle.som_model.specs.Lists.{Mem}
use Rattle.som_model.specs.Rules.{RuleBreach}
use Rattle.som_image_fields.specs.declared.fault.ImageFault.{ImageFault}
use Rattle.som_image_fields.specs.declared.fault.ImageFault.TheVariants as faults
use Rattle.som_cmd_steps.specs.declared.stop.Refusal.{Refusal}
use Rattle.som_cmd_steps.specs.Lines.{absent, broken, not_kept, unread}

-- an image isn't there, can't be read or stands at the wrong place for a fault of its bytes, or breaks a rule
abbrev pub IsLevelRefusal : List ℕ → Refusal → Type 0
IsLevelRefusal name r = (r ≡ absent name) ⊎ ((fault : ImageFault) × (fault ≢ faults.NoMemory) × (r ≡ unread name fault)) ⊎ ((b : RuleBreach) × (r ≡ broken name b))

-- so one of these images is refused
abbrev pub IsLevelsRefusal : List (List ℕ) → Refusal → Type 0
IsLevelsRefusal names r = (name : List ℕ) × Mem name names × IsLevelRefusal name r

-- one of these levels doesn't keep what something above it was compiled against
abbrev pub IsKeptRefusal : List (List ℕ) → Refusal → Type 0
IsKeptRefusal names r = (name : List ℕ) × Mem name names × (b : CompatBreach) × (r ≡ not_kept name b)
