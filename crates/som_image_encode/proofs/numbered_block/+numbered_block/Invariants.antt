use Rattle.std.proofs.Common.{◌≡◌, ◌+◌, ◌*◌, map, max, take}
use Rattle.som_model.specs.declared.syntax.Stmt.{size-Stmt}
use Rattle.som_model.specs.declared.syntax.Block.{size-Block}
use Rattle.som_image_encode.specs.NumberedBlocks.{stmt_numbered}
use Rattle.som_image_encode.proofs.numbered_block.+numbered_block.Given as goal

abbrev pub invariant-number_statements-loop-statement : goal.invariant-number_statements-loop-statement
invariant-number_statements-loop-statement l = l.statements ≡ map (stmt_numbered l.directory) (take l.statement-index l.block.statements)

abbrev pub decreases-number_statements : goal.decreases-number_statements
decreases-number_statements l = 3 * size-Block l.block.now

abbrev pub decreases-number_stmt : goal.decreases-number_stmt
decreases-number_stmt l = 3 * size-Stmt l.statement.now

abbrev pub decreases-number_if : goal.decreases-number_if
decreases-number_if l = 3 * max (size-Block l.then.now) (size-Block l.other.now) + 2

abbrev pub decreases-number_while : goal.decreases-number_while
decreases-number_while l = 3 * size-Block l.block.now + 2

abbrev pub decreases-number_inner : goal.decreases-number_inner
decreases-number_inner l = 3 * size-Block l.block.now + 1
