-- Lines, as directives see them.
use Rattle.std.specs.Prelude.{ℕ, ◌+◌, Bool, true, false, ◌||◌, ◌&&◌, if◌then◌else◌, ◌==◌, List, [], ◌∷◌, fold, take}
use Rattle.som_lex.specs.Alphabet.{line_feed, carriage_return, is_indent}

-- whether only spaces and tabs stand on the line after one more byte
abbrev pub stays_fresh : Bool → ℕ → Bool
stays_fresh fresh b = b == line_feed || (fresh && is_indent b)

-- whether only spaces and tabs stand on the line after these bytes, if that was so before them or not
abbrev pub fresh_after : Bool → List ℕ → Bool
fresh_after fresh bs = fold stays_fresh fresh bs

-- whether only spaces and tabs stand before this place on its line
abbrev pub is_fresh : List ℕ → ℕ → Bool
is_fresh source at = fresh_after true (take at source)

-- whether this byte is the first
abbrev pub next_is : ℕ → List ℕ → Bool
next_is c [] = false
next_is c (b ∷ bs) = b == c

-- whether a line ends before these bytes: at the end of the file, or before a line feed with or without a carriage return
abbrev pub line_ends : List ℕ → Bool
line_ends [] = true
line_ends (b ∷ bs) = b == line_feed || (b == carriage_return && next_is line_feed bs)

-- the first place at which the line ends
unfoldable pub line_end : List ℕ → ℕ
line_end [] = 0
line_end (b ∷ bs) = if line_ends (b ∷ bs) then 0 else 1 + line_end bs
