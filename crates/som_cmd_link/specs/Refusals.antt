-- What a run may be refused for.
use Rattle.std.specs.Prelude.{ℕ, List, ◌≡◌, ◌≢◌, ◌⊎◌}
use Rattle.som_model.specs.Rules.{RuleBreach}
use Rattle.som_model.specs.Compatible.{CompatBreach}
use Rattle.som_image_fields.specs.declared.fault.ImageFault.{ImageFault}
use Rattle.som_image_fields.specs.declared.fault.ImageFault.TheVariants as faults
use Rattle.som_cmd_steps.specs.declared.stop.Refusal.{Refusal}
use Rattle.som_cmd_steps.specs.Lines.{absent, broken, not_kept, unread}

-- an image isn't there, can't be read for a fault of its bytes, or breaks a rule
abbrev pub IsImageRefusal : List ℕ → Refusal → Type 0
IsImageRefusal name r = (r ≡ absent name) ⊎ ((fault : ImageFault) × (fault ≢ faults.NoMemory) × (r ≡ unread name fault)) ⊎ ((b : RuleBreach) × (r ≡ broken name b))

-- that of the client or that of the library, or the library doesn't keep what the client was compiled against
abbrev pub IsRunRefusal : List ℕ → List ℕ → Refusal → Type 0
IsRunRefusal client library r = IsImageRefusal client r ⊎ IsImageRefusal library r ⊎ ((b : CompatBreach) × (r ≡ not_kept library b))
