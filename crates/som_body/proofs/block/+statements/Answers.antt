use Rattle.std.proofs.Common.{◌≡◌, ◌≢◌, ◌-◌, ◌∷◌, [], subst, rules, arith}
use Rattle.std.proofs.lemmas.Grind.{common_steps}
use Rattle.std.proofs.lemmas.Result.{err_from_is_err_and}
use Rattle.som_parse.proofs.Loops.{turn_start, turn_done, turn_more, turn_stops, turn_none}
use Rattle.som_parse.specs.Readers.{keeping, repeated, one_more}
use Rattle.som_parse.specs.Answer.{Answers}
use Rattle.som_parse.specs.Seen.{text_at}
use Rattle.som_body.proofs.Deeper.{statement_deeper, if_deeper}
use Rattle.som_parse.specs.declared.cursor.Stop.TheVariants.{Memory}
use Rattle.som_parse.specs.Tokens.{is_sign}
use Rattle.som_parse.specs.declared.token.Sign.TheVariants as sign
use Rattle.som_body.specs.Reading.{too_deep}
use Rattle.som_body.specs.StatementReading as spec
use Rattle.som_body.proofs.block.+statements.Goals as goal

pub statements-loop-turn-init : goal.statements-loop-turn-init
unfolding repeated
statements-loop-turn-init t c = record { same = turn_start (one_more (is_sign sign.CloseBrace) (keeping (spec.statement_at (text_at c.args.tokens.now) c.args.depth))) [] _ _ _ (first_of (search rules, grind (arith, common_steps))) (omega arith) }

pub statements-returns-in-Done : goal.statements-returns-in-Done
statements-returns-in-Done t c = turn_done (one_more (is_sign sign.CloseBrace) (keeping (spec.statement_at (text_at c.args.tokens.now) c.args.depth))) _ c.loop-turn._turn c.loop-turn.so_far c.loop-turn.left.rest.now _ c.loop-turn.invariant.same _ _ c.loop-turn-test.true (rw c.in-Done.is at c.in_ok-more.ensures)

pub statements-returns-in_err-more : goal.statements-returns-in_err-more
statements-returns-in_err-more t c =
    let p = err_from_is_err_and c.from_residual.result c.from_residual.ensures.1 in
    rw (p.1, p.2) (λ (here : c.in_err-more.field-0.0 ≢ Memory). turn_stops (one_more (is_sign sign.CloseBrace) (keeping (spec.statement_at (text_at c.args.tokens.now) c.args.depth))) _ c.loop-turn._turn c.loop-turn.so_far c.loop-turn.left.rest.now _ c.loop-turn.invariant.same _ _ c.loop-turn-test.true (c.in_err-more.ensures here))

pub statements-loop-turn-preserved : goal.statements-loop-turn-preserved
statements-loop-turn-preserved t c = record { same = turn_more (one_more (is_sign sign.CloseBrace) (keeping (spec.statement_at (text_at c.args.tokens.now) c.args.depth))) _ c.loop-turn._turn c.loop-turn.so_far c.loop-turn.left.rest.now _ c.loop-turn.invariant.same _ _ c.loop-turn-test.true (rw c.in-More.is at c.in_ok-more.ensures) }

pub statements-returns : goal.statements-returns
statements-returns t c = λ here. turn_none (one_more (is_sign sign.CloseBrace) (keeping (spec.statement_at (text_at c.args.tokens.now) c.args.depth))) _ c.loop-turn._turn c.loop-turn.so_far c.loop-turn.left.rest.now _ c.loop-turn.invariant.same c.loop-turn-test.false

pub statement_at-returns : goal.statement_at-returns
statement_at-returns t c = subst (λ o. Answers o c.statement.result c.statement.new.left.rest.now) (statement_deeper (text_at c.args.tokens.now) c.args.depth (c.args.depth - 1) c.args.left.now.rest.now (omega arith)) c.statement.ensures

pub if_at-returns : goal.if_at-returns
if_at-returns t c = subst (λ o. Answers o c.if_statement.result c.if_statement.new.left.rest.now) (if_deeper (text_at c.args.tokens.now) c.args.depth (c.args.depth - 1) c.args.left.now.rest.now (omega arith)) c.if_statement.ensures

pub statement_at-returns-then-begins_stmt : goal.statement_at-returns-then-begins_stmt
unfolding spec.statement_at too_deep
statement_at-returns-then-begins_stmt t c = let none : c.args.depth ≡ 0 = omega arith in rw none (first_of (search rules, grind (arith, common_steps)))

pub statement_at-returns-else-begins_stmt : goal.statement_at-returns-else-begins_stmt
unfolding spec.statement_at too_deep
statement_at-returns-else-begins_stmt t c = let none : c.args.depth ≡ 0 = omega arith in rw none (first_of (search rules, grind (arith, common_steps)))

pub if_at-returns-then-sees_word : goal.if_at-returns-then-sees_word
unfolding spec.statement_at too_deep
if_at-returns-then-sees_word t c = let none : c.args.depth ≡ 0 = omega arith in rw none (first_of (search rules, grind (arith, common_steps)))

pub if_at-returns-else-sees_word : goal.if_at-returns-else-sees_word
unfolding spec.statement_at too_deep
if_at-returns-else-sees_word t c = let none : c.args.depth ≡ 0 = omega arith in rw none (first_of (search rules, grind (arith, common_steps)))
