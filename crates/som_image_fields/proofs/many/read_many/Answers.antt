use Rattle.std.proofs.Common.{Ok, Err}
use Rattle.std.proofs.lemmas.Result.{err_from_is_err_and}
use Rattle.som_image_fields.proofs.Loop.{goes_on, ends, is_done}
use Rattle.som_image_fields.proofs.many.read_many.Goals as goal

pub returns-in_err-one-clause-exact : goal.returns-in_err-one-clause-exact
returns-in_err-one-clause-exact g c = λ one h.
    let p = err_from_is_err_and c.from_residual.result c.from_residual.ensures.1 in
    rw (p.1, p.2) (ends one c.args.count c.args.place c.loop.value c.loop.counter c.loop.next c.in_err-one.field-0.0 c.loop-test.true (h c.loop.next (Err c.in_err-one.field-0.0) c.loop.invariant.within c.in_err-one.ensures) (c.loop.invariant.reads one h))

pub loop-preserved : goal.loop-preserved
loop-preserved g c = record {
  reads = λ one h. rw (c.in_ok-push.ensures.ok) (goes_on one c.args.count c.args.place c.loop.value c.loop.counter c.loop.next c.in_ok-one.one c.loop-test.true (h c.loop.next (Ok c.in_ok-one.one) c.loop.invariant.within c.in_ok-one.ensures) (c.loop.invariant.reads one h));
  within = c.requires.within c.loop.next (Ok c.in_ok-one.one) c.loop.invariant.within c.in_ok-one.ensures;
}

pub returns-clause-exact : goal.returns-clause-exact
returns-clause-exact g c = λ one h. is_done one c.args.count c.args.place c.loop.value c.loop.counter c.loop.next c.loop-test.false (c.loop.invariant.reads one h)
