use Rattle.std.proofs.Common.{◌≡◌, ◌≢◌, ◌+◌, ◌∷◌, [], rules, arith}
use Rattle.std.proofs.lemmas.Grind.{common_steps}
use Rattle.std.proofs.lemmas.Result.{err_from_is_err_and}
use Rattle.som_parse.proofs.Loops.{turn_first_from, turn_done, turn_more, turn_stops, turn_none}
use Rattle.som_parse.specs.Seen.{text_at}
use Rattle.som_parse.specs.declared.cursor.Stop.TheVariants.{Memory}
use Rattle.som_body.specs.Reading as spec
use Rattle.som_body.specs.declared.level.Tall.{Tall}
use Rattle.som_body.proofs.rules.Rules.some_arguments.Goals as goal

pub loop-turn-init : goal.loop-turn-init
unfolding spec.arguments_listed
loop-turn-init g c = record { same = turn_first_from (spec.argument (text_at c.args.self.now.tokens.now) (spec.at (text_at c.args.self.now.tokens.now) c.args.self.now.depth)) (λ (x : Tall). spec.given (x.tree ∷ []) x.height) _ c.in_ok-tree.field-0 _ _ _ (c.in_ok-tree.ensures.reads) (first_of (search rules, grind (arith, common_steps))) (omega arith); low = c.in_ok-tree.ensures.low }

pub returns-in-Done-clause-reads : goal.returns-in-Done-clause-reads
returns-in-Done-clause-reads g c = turn_done (spec.argument (text_at c.args.self.now.tokens.now) (spec.at (text_at c.args.self.now.tokens.now) c.args.self.now.depth)) _ c.loop-turn._turn c.loop-turn.so_far c.loop-turn.left.rest.now _ c.loop-turn.invariant.same _ _ c.loop-turn-test.true (rw c.in-Done.is at c.in_ok-more.ensures.reads)

pub returns-in_err-more-clause-reads : goal.returns-in_err-more-clause-reads
returns-in_err-more-clause-reads g c =
    let p = err_from_is_err_and c.from_residual-in_err-more.result c.from_residual-in_err-more.ensures.1 in
    rw (p.1, p.2) (λ (here : c.in_err-more.field-0.0 ≢ Memory). turn_stops (spec.argument (text_at c.args.self.now.tokens.now) (spec.at (text_at c.args.self.now.tokens.now) c.args.self.now.depth)) _ c.loop-turn._turn c.loop-turn.so_far c.loop-turn.left.rest.now _ c.loop-turn.invariant.same _ _ c.loop-turn-test.true (c.in_err-more.ensures.reads here))

pub loop-turn-preserved : goal.loop-turn-preserved
loop-turn-preserved g c = record { same = turn_more (spec.argument (text_at c.args.self.now.tokens.now) (spec.at (text_at c.args.self.now.tokens.now) c.args.self.now.depth)) _ c.loop-turn._turn c.loop-turn.so_far c.loop-turn.left.rest.now _ c.loop-turn.invariant.same _ _ c.loop-turn-test.true (rw c.in-More.is at c.in_ok-more.ensures.reads); low = rw c.in-More.is at c.in_ok-more.ensures.low }

pub returns-clause-reads : goal.returns-clause-reads
returns-clause-reads g c = λ here. turn_none (spec.argument (text_at c.args.self.now.tokens.now) (spec.at (text_at c.args.self.now.tokens.now) c.args.self.now.depth)) _ c.loop-turn._turn c.loop-turn.so_far c.loop-turn.left.rest.now _ c.loop-turn.invariant.same c.loop-turn-test.false
