-- The turns that a pattern of digits gives.
use Rattle.std.specs.Prelude.{◌<◌, ◌-◌, ◌^◌, ◌&&◌, ℕ, Bool, List, length, map, nat_le, nat_lt, replicate}
use Rattle.std.specs.List.{All, concat}

-- the client that a digit names
abbrev pub client_of : ℕ → ℕ
client_of digit = digit - 48

-- a digit that names one of so many clients, which are numbered from 0
abbrev pub names_client : ℕ → ℕ → Bool
names_client count digit = nat_le 48 digit && nat_lt (client_of digit) count

-- the clients that the pattern names, in its order, so many times
abbrev pub turns_given : List ℕ → ℕ → List ℕ
turns_given pattern rounds = concat (replicate rounds (map client_of pattern))

-- turns each of which is that of one of so many clients, fewer than the units that a task can have
pub record AreTurns (count : ℕ) (turns : List ℕ) : Type 0 where
  pub places : All (λ turn. turn < count) turns
  pub few : length turns < 2 ^ 32
