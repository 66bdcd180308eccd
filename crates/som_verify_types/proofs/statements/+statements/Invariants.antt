use Rattle.std.proofs.Common.{◌+◌, ◌*◌, max, drop}
use Rattle.som_model.specs.declared.syntax.Stmt.{size-Stmt}
use Rattle.som_model.specs.declared.syntax.Block.{size-Block}
use Rattle.som_verify_forms.specs.Kinds.{code_at}
use Rattle.som_verify_forms.specs.Knowing.{all_of, facts_of}
use Rattle.som_verify_types.proofs.BlockSteps.{IsPart}
use Rattle.som_verify_types.proofs.statements.+statements.Given as goal

abbrev pub invariant-block_typed-loop-statement : goal.invariant-block_typed-loop-statement
invariant-block_typed-loop-statement l = IsPart (all_of l.known) (facts_of l.known) (code_at (all_of l.known) l.at) l.block.statements (drop l.statement-index l.block.statements) l.fn.scope.items l.scope.items

abbrev pub decreases-block_typed : goal.decreases-block_typed
decreases-block_typed l = 2 * size-Block l.block.now

abbrev pub decreases-statement_typed : goal.decreases-statement_typed
decreases-statement_typed l = 2 * size-Stmt l.statement.now

abbrev pub decreases-if_typed : goal.decreases-if_typed
decreases-if_typed l = 2 * max (size-Block l.then.now) (size-Block l.other.now) + 1

abbrev pub decreases-while_typed : goal.decreases-while_typed
decreases-while_typed l = 2 * size-Block l.block.now + 1
