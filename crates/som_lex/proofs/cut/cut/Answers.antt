use Rattle.std.proofs.Common.{◌≡◌, ◌≢◌, ◌≤◌, ◌∙◌, ◌-◌, length, take, drop, ap, rules, arith}
use Rattle.std.proofs.lemmas.Grind.{common_steps}
use Rattle.std.proofs.lemmas.Result.{err_from_is_err_and}
use Rattle.som_lex.specs.Line.{fresh_after}
use Rattle.som_lex.proofs.Steps.{FrontAt, cut_whole, cut_on, stops_on, stops_here, front_here, some_of, drop_on, fresh_on}
use Rattle.som_lex.proofs.cut.cut.Goals as goal

pub returns-in_err-lexeme : goal.returns-in_err-lexeme
returns-in_err-lexeme c =
    let loop = c.loop-rest in
    let some : length loop.rest.now ≢ 0 = first_of (search rules, grind (arith, common_steps)) in
    let p = err_from_is_err_and c.from_residual.result c.from_residual.ensures.1 in
    rw (p.1, p.2) (λ _. stops_here c.args.source.now loop.rest.now loop.at loop.fresh c.in_err-lexeme.field-0.0 loop.invariant.stops (some_of loop.rest.now some) loop.invariant.left loop.invariant.fresh c.in_err-lexeme.ensures.value)

pub loop-rest-preserved : goal.loop-rest-preserved
loop-rest-preserved c =
    let source = c.args.source.now in
    let loop = c.loop-rest in
    let so_far = loop.invariant in
    let x = c.in_ok-lexeme.lexeme in
    let le : loop.at ≤ x.end = omega (arith, c.in_ok-lexeme.ensures.within) in
    let front : FrontAt source loop.at x = front_here source loop.rest.now loop.at loop.fresh x so_far.left so_far.fresh c.in_ok-lexeme.ensures.value in
    record {
      cuts = cut_on source loop.at x loop.list c.note.new.list so_far.cuts front c.in_ok-note.ensures;
      stops = stops_on source loop.at x so_far.stops front;
      left = c.split_at.ensures.back ∙ ap (λ bs. drop (x.end - loop.at) bs) so_far.left ∙ drop_on loop.at x.end source le;
      fresh = c.fresh_after-fresh.ensures ∙ ap (λ bs. fresh_after loop.fresh bs) (c.split_at.ensures.front ∙ ap (λ bs. take (x.end - loop.at) bs) so_far.left) ∙ fresh_on loop.at x.end source loop.fresh le so_far.fresh;
      place = first_of (omega (arith, c.split_at.ensures.back_len, so_far.place, le), grind (arith, common_steps));
    }

pub returns : goal.returns
returns c =
    let done : c.loop-rest.at ≡ length c.args.source.now = first_of (search rules, grind (arith, common_steps)) in
    cut_whole c.args.source.now c.loop-rest.at c.loop-rest.list c.loop-rest.invariant.cuts done
