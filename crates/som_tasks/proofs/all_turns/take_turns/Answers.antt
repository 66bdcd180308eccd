use Rattle.std.proofs.Common.{Ok, ◌∙◌, arith}
use Rattle.som_tasks.proofs.Next.{can_turn, front_done, front_next, kept_next, older_next, told_whole, turned_next}
use Rattle.som_tasks.proofs.all_turns.take_turns.Goals as goal

pub take_turn-requires-clause-able : goal.take_turn-requires-clause-able
take_turn-requires-clause-able g c =
    can_turn _ _ _ _ _ _ _ c.args.turns.now c.loop-turn.turn-index c.loop-turn-test.true _ _ _ _ _ _ _ _ c.loop-turn.invariant.turned c.from-place.result c.from-place.ensures c.requires.places
    c.index-kernels-place.result c.index-clients-place.result c.index-ends-place.result c.requires.units

pub returns-in_err-take_turn-clause-front : goal.returns-in_err-take_turn-clause-front
returns-in_err-take_turn-clause-front g c =
    front_next _ _ _ _ _ _ _ c.args.turns.now c.loop-turn.turn-index c.loop-turn-test.true _ _ _ _ _ _ _ _ c.loop-turn.invariant.turned c.from-place.result c.from-place.ensures c.requires.places
    c.index-kernels-place.result c.index-clients-place.result c.index-ends-place.result c.take_turn.new.objects c.take_turn.new.kernel c.take_turn.new.client c.take_turn.new.end _ c.take_turn.result c.take_turn.ensures.kept c.take_turn.ensures.turns

pub returns-in_err-take_turn-clause-kept : goal.returns-in_err-take_turn-clause-kept
returns-in_err-take_turn-clause-kept g c =
    kept_next _ _ _ _ _ _ _ c.args.turns.now c.loop-turn.turn-index c.loop-turn-test.true _ _ _ _ _ _ _ _ c.loop-turn.invariant.turned c.from-place.result c.from-place.ensures c.requires.places
    c.index-kernels-place.result c.index-clients-place.result c.index-ends-place.result c.take_turn.new.objects c.take_turn.new.kernel c.take_turn.new.client c.take_turn.new.end _ c.take_turn.result c.take_turn.ensures.kept c.take_turn.ensures.turns

pub returns-in_err-take_turn-clause-older : goal.returns-in_err-take_turn-clause-older
returns-in_err-take_turn-clause-older g c =
    older_next _ _ _ _ _ _ _ c.args.turns.now c.loop-turn.turn-index c.loop-turn-test.true _ _ _ _ _ _ _ _ c.loop-turn.invariant.turned c.from-place.result c.from-place.ensures c.requires.places
    c.index-kernels-place.result c.index-clients-place.result c.index-ends-place.result c.take_turn.new.objects c.take_turn.new.kernel c.take_turn.new.client c.take_turn.new.end _ c.take_turn.result c.take_turn.ensures.kept c.take_turn.ensures.turns

pub loop-turn-preserved : goal.loop-turn-preserved
loop-turn-preserved g c =
    let so = c.loop-turn.invariant in
    let counts = c.in_ok-take_turn.ensures.counts in
    let calms = c.in_ok-take_turn.ensures.calms in
    record {
      turned = turned_next _ _ _ _ _ _ _ c.args.turns.now c.loop-turn.turn-index c.loop-turn-test.true _ _ _ _ _ _ _ _ so.turned c.from-place.result c.from-place.ensures c.requires.places
          c.index-kernels-place.result c.index-clients-place.result c.index-ends-place.result c.take_turn.new.objects c.take_turn.new.kernel c.take_turn.new.client c.take_turn.new.end (g.K.Sink.written c.take_turn.new.out) (Ok c.in_ok-take_turn.field-0) c.in_ok-take_turn.ensures.kept c.in_ok-take_turn.ensures.turns (told_whole c.in_ok-take_turn.field-0);
      later = omega (arith, so.later, counts.later);
      stays = λ calm. calms.stays (so.stays calm);
      count = λ calm. calms.count (so.stays calm) ∙ so.count calm;
    }

pub returns-clause-front : goal.returns-clause-front
returns-clause-front g c = front_done _ _ _ _ _ _ _ c.args.turns.now c.loop-turn.turn-index _ _ _ _ _ _ _ _ c.loop-turn-test.false c.loop-turn.invariant.turned
