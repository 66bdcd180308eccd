use Rattle.std.proofs.Common.{◌≡◌, ◌+◌, ◌*◌, max, take}
use Rattle.som_model.specs.declared.syntax.Stmt.{size-Stmt}
use Rattle.som_model.specs.declared.syntax.Block.{size-Block}
use Rattle.som_model.proofs.+copy_block.Given as goal

abbrev pub invariant-syntax::Block::copy-loop-statement : goal.invariant-syntax::Block::copy-loop-statement
invariant-syntax::Block::copy-loop-statement l = l.copies ≡ take l.statement-index l.self.statements

abbrev pub decreases-syntax::Block::copy : goal.decreases-syntax::Block::copy
decreases-syntax::Block::copy l = 2 * size-Block l.self.now

abbrev pub decreases-syntax::Stmt::copy : goal.decreases-syntax::Stmt::copy
decreases-syntax::Stmt::copy l = 2 * size-Stmt l.self.now

abbrev pub decreases-copy_syntax::copy_if : goal.decreases-copy_syntax::copy_if
decreases-copy_syntax::copy_if l = 2 * max (size-Block l.then.now) (size-Block l.other.now) + 1

abbrev pub decreases-copy_syntax::copy_while : goal.decreases-copy_syntax::copy_while
decreases-copy_syntax::copy_while l = 2 * size-Block l.block.now + 1
