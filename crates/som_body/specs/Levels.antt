-- The levels of what is read so far. Each token has a level: 0, or that of the construct which it begins or goes on with, as deep as the tokens up to it say. So an operator has that of its first operand, which it pushes one level down.
use Rattle.std.specs.Prelude.{ℕ, suc, max, List, [], ◌∷◌, map}

-- the deepest
abbrev pub top : List ℕ → ℕ
top [] = 0
top (n ∷ ns) = max n (top ns)

-- one level down
abbrev pub down : List ℕ → List ℕ
down l = map (λ n. suc n) l
