use Rattle.std.proofs.Common.{◌≡◌, ◌+◌, ◌*◌, map, max, take}
use Rattle.som_model.specs.declared.syntax.Stmt.{size-Stmt}
use Rattle.som_model.specs.declared.syntax.Block.{size-Block}
use Rattle.som_rekey.specs.Statements.{new_stmt}
use Rattle.som_rekey.proofs.syntax.+rekey_block.Given as goal

abbrev pub invariant-rekey_block-loop-statement : goal.invariant-rekey_block-loop-statement
invariant-rekey_block-loop-statement g l = l.copies ≡ map (new_stmt (g.C.NewModules.change l.change)) (take l.statement-index l.block.statements)

abbrev pub decreases-rekey_block : goal.decreases-rekey_block
decreases-rekey_block g l = 2 * size-Block l.block.now

abbrev pub decreases-rekey_stmt : goal.decreases-rekey_stmt
decreases-rekey_stmt g l = 2 * size-Stmt l.statement.now

abbrev pub decreases-rekey_if : goal.decreases-rekey_if
decreases-rekey_if g l = 2 * max (size-Block l.then.now) (size-Block l.other.now) + 1

abbrev pub decreases-rekey_while : goal.decreases-rekey_while
decreases-rekey_while g l = 2 * size-Block l.block.now + 1
