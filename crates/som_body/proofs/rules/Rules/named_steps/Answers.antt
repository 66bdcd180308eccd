use Rattle.std.proofs.Common.{◌≡◌, ◌≢◌, ◌+◌, ◌∷◌, [], rules, arith}
use Rattle.std.proofs.lemmas.Grind.{common_steps}
use Rattle.std.proofs.lemmas.Result.{err_from_is_err_and}
use Rattle.som_parse.proofs.Loops.{turn_start, turn_done, turn_more, turn_stops, turn_none}
use Rattle.som_parse.specs.Seen.{text_at}
use Rattle.som_parse.specs.declared.cursor.Stop.TheVariants.{Memory}
use Rattle.som_body.specs.Reading as spec
use Rattle.som_body.proofs.rules.Rules.named_steps.Goals as goal

pub loop-turn-init : goal.loop-turn-init
loop-turn-init g c = record { same = turn_start (spec.named_step (text_at c.args.self.now.tokens.now) (spec.at (text_at c.args.self.now.tokens.now) c.args.self.now.depth) (c.args.self.now.depth + 1)) c.args.first _ _ _ (first_of (search rules, grind (arith, common_steps))) (omega arith); low = c.requires.low }

pub returns-in-Done-clause-reads : goal.returns-in-Done-clause-reads
returns-in-Done-clause-reads g c = turn_done (spec.named_step (text_at c.args.self.now.tokens.now) (spec.at (text_at c.args.self.now.tokens.now) c.args.self.now.depth) (c.args.self.now.depth + 1)) _ c.loop-turn._turn c.loop-turn.so_far c.loop-turn.left.rest.now _ c.loop-turn.invariant.same _ _ c.loop-turn-test.true (rw c.in-Done.is at c.in_ok-more.ensures.reads)

pub returns-in_err-more-clause-reads : goal.returns-in_err-more-clause-reads
returns-in_err-more-clause-reads g c =
    let p = err_from_is_err_and c.from_residual.result c.from_residual.ensures.1 in
    rw (p.1, p.2) (λ (here : c.in_err-more.field-0.0 ≢ Memory). turn_stops (spec.named_step (text_at c.args.self.now.tokens.now) (spec.at (text_at c.args.self.now.tokens.now) c.args.self.now.depth) (c.args.self.now.depth + 1)) _ c.loop-turn._turn c.loop-turn.so_far c.loop-turn.left.rest.now _ c.loop-turn.invariant.same _ _ c.loop-turn-test.true (c.in_err-more.ensures.reads here))

pub loop-turn-preserved : goal.loop-turn-preserved
loop-turn-preserved g c = record { same = turn_more (spec.named_step (text_at c.args.self.now.tokens.now) (spec.at (text_at c.args.self.now.tokens.now) c.args.self.now.depth) (c.args.self.now.depth + 1)) _ c.loop-turn._turn c.loop-turn.so_far c.loop-turn.left.rest.now _ c.loop-turn.invariant.same _ _ c.loop-turn-test.true (rw c.in-More.is at c.in_ok-more.ensures.reads); low = rw c.in-More.is at c.in_ok-more.ensures.low }

pub returns-clause-reads : goal.returns-clause-reads
returns-clause-reads g c = λ here. turn_none (spec.named_step (text_at c.args.self.now.tokens.now) (spec.at (text_at c.args.self.now.tokens.now) c.args.self.now.depth) (c.args.self.now.depth + 1)) _ c.loop-turn._turn c.loop-turn.so_far c.loop-turn.left.rest.now _ c.loop-turn.invariant.same c.loop-turn-test.false
