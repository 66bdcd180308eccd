-- Names that aren't too long.
use Rattle.std.specs.Prelude.{ℕ, List, length, nat_le, Option, Some, None, if◌then◌else◌}

-- the text if it has at most so many bytes
abbrev pub within : ℕ → List ℕ → Option (List ℕ)
within most text = if nat_le (length text) most then Some text else None
