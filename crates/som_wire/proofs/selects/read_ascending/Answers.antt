use Rattle.std.proofs.lemmas.Result.{err_from_is_err_and}
use Rattle.som_wire.proofs.Ascending.{goes_on, ends, is_done}
use Rattle.som_wire.proofs.selects.read_ascending.Goals as goal

pub returns-in_err-one-clause-exact : goal.returns-in_err-one-clause-exact
returns-in_err-one-clause-exact c =
    let p = err_from_is_err_and c.from_residual.result c.from_residual.ensures.1 in
    rw (p.1, p.2) (ends c.args.ranges.now c.args.bytes.now c.args.count c.args.first c.args.place c.loop.value c.loop.least c.loop.counter c.loop.next c.in_err-one.field-0.0 c.loop-test.true c.in_err-one.ensures.exact c.loop.invariant.reads)

pub loop-preserved : goal.loop-preserved
loop-preserved c = record {
  reads = rw (c.in_ok-push.ensures.ok) (goes_on c.args.ranges.now c.args.bytes.now c.args.count c.args.first c.args.place c.loop.value c.loop.least c.loop.counter c.loop.next c.in_ok-one.one c.loop-test.true c.in_ok-one.ensures.exact c.loop.invariant.reads);
  within = c.in_ok-one.ensures.next;
}

pub returns-clause-exact : goal.returns-clause-exact
returns-clause-exact c = is_done c.args.ranges.now c.args.bytes.now c.args.count c.args.first c.args.place c.loop.value c.loop.least c.loop.counter c.loop.next c.loop-test.false c.loop.invariant.reads
