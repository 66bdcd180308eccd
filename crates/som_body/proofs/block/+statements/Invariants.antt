use Rattle.std.proofs.Common.{◌≡◌, ◌+◌, ◌-◌, ◌*◌}
use Rattle.som_parse.specs.Readers.{keeping, repeated, one_more, turns}
use Rattle.som_parse.specs.Seen.{text_at}
use Rattle.som_parse.specs.Tokens.{is_sign}
use Rattle.som_parse.specs.declared.token.Sign.TheVariants as sign
use Rattle.som_body.specs.StatementReading as spec
use Rattle.som_body.proofs.block.+statements.Given as goal

abbrev pub invariant-statements-loop-turn : goal.invariant-statements-loop-turn
invariant-statements-loop-turn l = record { same : repeated (is_sign sign.CloseBrace) (keeping (spec.statement_at (text_at l.tokens) l.depth)) l.fn.left.rest.now ≡ turns (one_more (is_sign sign.CloseBrace) (keeping (spec.statement_at (text_at l.tokens) l.depth))) (l._turn-end - l._turn) l.so_far l.left.rest.now }

abbrev pub decreases-statement_at : goal.decreases-statement_at
decreases-statement_at l = 8 * l.depth

abbrev pub decreases-if_at : goal.decreases-if_at
decreases-if_at l = 8 * l.depth

abbrev pub decreases-next_statement : goal.decreases-next_statement
decreases-next_statement l = 8 * l.depth + 1

abbrev pub decreases-statements : goal.decreases-statements
decreases-statements l = 8 * l.depth + 2

abbrev pub decreases-block : goal.decreases-block
decreases-block l = 8 * l.depth + 3

abbrev pub decreases-else_part : goal.decreases-else_part
decreases-else_part l = 8 * l.depth + 4

abbrev pub decreases-while_statement : goal.decreases-while_statement
decreases-while_statement l = 8 * l.depth + 4

abbrev pub decreases-if_statement : goal.decreases-if_statement
decreases-if_statement l = 8 * l.depth + 5

abbrev pub decreases-statement : goal.decreases-statement
decreases-statement l = 8 * l.depth + 6
