use Rattle.std.proofs.Common.{◌≢◌, [], rules, arith}
use Rattle.std.proofs.lemmas.Grind.{common_steps}
use Rattle.std.proofs.lemmas.Result.{err_from_is_err_and}
use Rattle.som_parse.proofs.Loops.{turn_start, turn_done, turn_more, turn_stops, turn_none}
use Rattle.som_parse.specs.declared.cursor.Stop.TheVariants.{Memory}
use Rattle.som_parse.specs.Readers.{repeated, one_more, keeping}
use Rattle.som_parse.specs.Seen.{text_at}
use Rattle.som_idl.specs.Reading as spec
use Rattle.som_idl.proofs.export.exports.Goals as goal

pub loop-turn-init : goal.loop-turn-init
unfolding repeated spec.exports_at
loop-turn-init c = record { same = turn_start (one_more spec.ends_exports (keeping (spec.export (text_at c.args.tokens.now)))) [] _ _ _ (first_of (search rules, grind (arith, common_steps))) (omega arith) }

pub returns-in-Done : goal.returns-in-Done
returns-in-Done c = turn_done (one_more spec.ends_exports (keeping (spec.export (text_at c.args.tokens.now)))) _ c.loop-turn._turn c.loop-turn.so_far c.loop-turn.left.rest.now _ c.loop-turn.invariant.same _ _ c.loop-turn-test.true (rw c.in-Done.is at c.in_ok-more.ensures)

pub returns-in_err-more : goal.returns-in_err-more
returns-in_err-more c =
    let p = err_from_is_err_and c.from_residual.result c.from_residual.ensures.1 in
    rw (p.1, p.2) (λ (here : c.in_err-more.field-0.0 ≢ Memory). turn_stops (one_more spec.ends_exports (keeping (spec.export (text_at c.args.tokens.now)))) _ c.loop-turn._turn c.loop-turn.so_far c.loop-turn.left.rest.now _ c.loop-turn.invariant.same _ _ c.loop-turn-test.true (c.in_err-more.ensures here))

pub loop-turn-preserved : goal.loop-turn-preserved
loop-turn-preserved c = record { same = turn_more (one_more spec.ends_exports (keeping (spec.export (text_at c.args.tokens.now)))) _ c.loop-turn._turn c.loop-turn.so_far c.loop-turn.left.rest.now _ c.loop-turn.invariant.same _ _ c.loop-turn-test.true (rw c.in-More.is at c.in_ok-more.ensures) }

pub returns : goal.returns
returns c = λ here. turn_none (one_more spec.ends_exports (keeping (spec.export (text_at c.args.tokens.now)))) _ c.loop-turn._turn c.loop-turn.so_far c.loop-turn.left.rest.now _ c.loop-turn.invariant.same c.loop-turn-test.false
