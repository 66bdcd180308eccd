use Rattle.std.proofs.Common.{◌∙◌}
use Rattle.som_interp_dispatch.proofs.Staging.{before_none, first_found, none_there}
use Rattle.som_interp_dispatch.proofs.hooks.first_before.Goals as goal

pub returns-in-Some-clause-first : goal.returns-in-Some-clause-first
returns-in-Some-clause-first g c x q are =
    first_found _ x q c.args.hooks.now are c.args.from c.loop-place.place _ _ c.in-Some.body c.loop-place-test.true c.index-hooks-place.is c.before_token-method.ensures c.in-Some.ensures.own (c.loop-place.invariant.passed x q are)

pub loop-place-preserved : goal.loop-place-preserved
loop-place-preserved g c =
    let l = g.R.Runtime.linked c.args.runtime.now in
    record {
      passed = λ x q are. c.loop-place.invariant.passed x q are ∙ before_none l x q c.args.hooks.now are c.loop-place.place c.index-hooks-place.result c.before_token-method.result c.loop-place-test.true c.index-hooks-place.is c.before_token-method.ensures c.in_default.ensures.own;
      cost = λ e. absurd (none_there c.args.hooks.now c.loop-place.place c.loop-place-test.true e);
    }
