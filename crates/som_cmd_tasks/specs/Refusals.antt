-- What `tasks` may be refused for.
use Rattle.std.specs.Prelude.{◌≡◌, ◌⊎◌, ℕ, List}
use Rattle.som_model.specs.Compatible.{CompatBreach}
use Rattle.som_model.specs.Lists.{Mem}
use Rattle.som_cmd_steps.specs.declared.stop.Refusal.{Refusal}
use Rattle.som_cmd_steps.specs.Lines.{not_kept}
use Rattle.som_cmd_link.specs.Refusals.{IsImageRefusal}

-- an image isn't there, can't be read for a fault of its bytes, or breaks a rule: that of the library or that of a client; or the library doesn't keep what a client was compiled against
abbrev pub IsTasksRefusal : List ℕ → List (List ℕ) → Refusal → Type 0
IsTasksRefusal library clients r = IsImageRefusal library r ⊎ ((client : List ℕ) × Mem client clients × IsImageRefusal client r) ⊎ ((b : CompatBreach) × (r ≡ not_kept library b))
