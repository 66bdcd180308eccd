-- What a run of a tower may be refused for.
use Rattle.std.specs.Prelude.{◌⊎◌, ◌∷◌, ℕ, List}
use Rattle.som_cmd_steps.specs.declared.stop.Refusal.{Refusal}
use Rattle.som_cmd_levels.specs.Refusals.{IsKeptRefusal, IsLevelsRefusal}

-- one of the images, the client's or that of a level below it, isn't there, can't be read, stands at the wrong place or breaks a rule; or a level doesn't keep what something above it was compiled against
abbrev pub IsTowerRefusal : List ℕ → List (List ℕ) → Refusal → Type 0
IsTowerRefusal client below r = IsLevelsRefusal (client ∷ below) r ⊎ IsKeptRefusal below r
