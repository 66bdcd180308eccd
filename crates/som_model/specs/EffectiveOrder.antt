-- The effective release order of a class.
use Rattle.std.specs.Prelude.{ℕ, List, ◌++◌}
use Rattle.som_model.specs.Lists.{without, among}

-- the listed names, and then the introduced names that the list misses, in order of declaration
abbrev pub effective_order : List (List ℕ) → List (List ℕ) → List (List ℕ)
effective_order listed introduced = listed ++ without (λ name. among name listed) introduced
