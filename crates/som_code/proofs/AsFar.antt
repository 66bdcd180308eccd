-- How far the statements of a block are written.
use Rattle.std.specs.Prelude.{◌≡◌, ◌<◌, ◌+◌, ◌^◌, ℕ, List, ◌++◌, map, length, drop}
use Rattle.som_model.specs.declared.syntax.Stmt.{Stmt}
use Rattle.som_code.specs.declared.instruction.Instruction.{Instruction}
use Rattle.som_code.specs.Laid.{lay_all, lay_stmt}

-- so many statements are written: with the code of those that are left it is the code of all, and no more locals are visible than there is room for
pub record IsAsFar (ss : List Stmt) (i : ℕ) (begun : List Instruction) (locals : ℕ) (code : List Instruction) (visible : ℕ) : Type 0 where
  pub whole : code ++ lay_all (map lay_stmt (drop i ss)) visible (length code) ≡ begun ++ lay_all (map lay_stmt ss) locals (length begun)
  pub few : visible < 2 ^ 63 + length code
