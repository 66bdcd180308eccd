-- At which level a place of a flat base stands.
use Rattle.std.specs.Prelude.{ℕ, suc, ◌-◌, nat_lt, if◌then◌else◌, List, [], ◌∷◌}

-- the level of a place, counted from the first of these sizes; as many as there are where it stands behind all
abbrev pub level_at : List ℕ → ℕ → ℕ
level_at [] place = 0
level_at (size ∷ sizes) place = if nat_lt place size then 0 else suc (level_at sizes (place - size))
