use Rattle.std.proofs.Common.{◌+◌, ◌*◌, max}
use Rattle.som_model.specs.declared.syntax.Stmt.{size-Stmt}
use Rattle.som_model.specs.declared.syntax.Block.{size-Block}
use Rattle.som_code.proofs.AsFar.{IsAsFar}
use Rattle.som_code.proofs.statements.+emit_block.Given as goal

abbrev pub invariant-emit_block-loop-statement : goal.invariant-emit_block-loop-statement
invariant-emit_block-loop-statement l = IsAsFar l.block.statements l.statement-index l.initial.code.items l.locals l.code.items l.visible

abbrev pub decreases-emit_block : goal.decreases-emit_block
decreases-emit_block l = 2 * size-Block l.block.now

abbrev pub decreases-emit_stmt : goal.decreases-emit_stmt
decreases-emit_stmt l = 2 * size-Stmt l.statement.now

abbrev pub decreases-emit_choice : goal.decreases-emit_choice
decreases-emit_choice l = 2 * max (size-Block l.then.now) (size-Block l.other.now) + 1

abbrev pub decreases-emit_loop : goal.decreases-emit_loop
decreases-emit_loop l = 2 * size-Block l.block.now + 1
