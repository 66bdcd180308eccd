-- The statuses of `tower make`.
use Rattle.std.specs.Prelude.{ℕ, List, ◌∷◌}
use Rattle.som_cmd_sources.specs.Statuses.{client_statuses}

-- those of `client`, and that a level doesn't keep what one above it was compiled against
abbrev pub tower_make_statuses : List ℕ
tower_make_statuses = 4 ∷ client_statuses
