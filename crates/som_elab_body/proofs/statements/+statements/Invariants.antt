use Rattle.std.proofs.Common.{◌+◌, ◌*◌, max, drop}
use Rattle.som_ast.specs.declared.body.StmtText.{size-StmtText}
use Rattle.som_ast.specs.declared.body.BlockText.{size-BlockText}
use Rattle.som_elab_body.specs.Code.{among_at, classes_at, place_at}
use Rattle.som_elab_body.specs.Statements.{elaborated_stmt}
use Rattle.som_elab_body.proofs.TextSteps.{IsPart}
use Rattle.som_elab_body.proofs.statements.+statements.Given as goal

abbrev pub invariant-block-loop-part : goal.invariant-block-loop-part
invariant-block-loop-part l = IsPart (classes_at l.context) (elaborated_stmt (among_at l.context) (place_at l.context)) l.text.statements (drop l.part-index l.text.statements) l.fn.locals.items l.locals.items l.statements

abbrev pub decreases-block : goal.decreases-block
decreases-block l = 2 * size-BlockText l.text.now

abbrev pub decreases-statement : goal.decreases-statement
decreases-statement l = 2 * size-StmtText l.text.now

abbrev pub decreases-choice : goal.decreases-choice
decreases-choice l = 2 * max (size-BlockText l.then.now) (size-BlockText l.other.now) + 1

abbrev pub decreases-repetition : goal.decreases-repetition
decreases-repetition l = 2 * size-BlockText l.body.now + 1
