-- How a block is typed.
use Rattle.std.proofs.Common.{◌≡◌, List, map}
use Rattle.som_model.specs.declared.syntax.Stmt.{Stmt}
use Rattle.som_model.specs.declared.syntax.Block.{fold-roll-Block}
use Rattle.som_model.specs.Typing.{ClassFacts, CodePlace}
use Rattle.som_model.specs.TypedBlocks.{Scoped, stmt_step, block_step, stmt_scope, block_scope, in_turn}

module _ (w : ClassFacts) (at : CodePlace) where
  -- a block, by what its statements come to
  pub block_typed : (ss : List Stmt) → block_scope w at (record { statements = ss }) ≡ in_turn (map (stmt_scope w at) ss)
  block_typed ss = fold-roll-Block Scoped Scoped (stmt_step w at) block_step (record { statements = ss })
