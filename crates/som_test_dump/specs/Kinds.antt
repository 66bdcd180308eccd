-- The names of what may be asked for.
use Rattle.std.specs.Prelude.{ℕ, List, Bool, codes, ◌||◌}
use Rattle.std.specs.Str.{bytes_eq}

-- whether something is shown under this name
abbrev pub is_kind : List ℕ → Bool
is_kind name =
    bytes_eq name (codes "tokens")
    || bytes_eq name (codes "texts")
    || bytes_eq name (codes "idl")
    || bytes_eq name (codes "bodies")
    || bytes_eq name (codes "main")
    || bytes_eq name (codes "tower")
