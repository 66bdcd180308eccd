use Rattle.std.proofs.Common.{◌-◌, refl, ◌∙◌, arith}
use Rattle.som_interp_dispatch.proofs.Staging.{last_passed, last_found, all_hooks, none_there}
use Rattle.som_interp_dispatch.proofs.hooks.last_after.Goals as goal

pub loop-place-init : goal.loop-place-init
loop-place-init g c = record {
  within = omega (arith, c.min-place.ensures);
  passed = λ x q are. all_hooks (g.R.Runtime.linked c.args.runtime.now) x q c.args.hooks.now are c.args.count c.min-place.result c.min-place.ensures;
  cost = λ e. refl;
}

pub returns-in-Some-clause-last : goal.returns-in-Some-clause-last
returns-in-Some-clause-last g c x q are =
    last_found _ x q c.args.hooks.now are c.args.count c.loop-place.place _ _ c.in-Some.body c.loop-place-test.true c.loop-place.invariant.within c.index-hooks-place.is c.after_token-method.ensures c.in-Some.ensures.own (c.loop-place.invariant.passed x q are)

pub loop-place-preserved : goal.loop-place-preserved
loop-place-preserved g c =
    let l = g.R.Runtime.linked c.args.runtime.now in
    record {
      within = omega arith;
      passed = λ x q are. c.loop-place.invariant.passed x q are ∙ last_passed l x q c.args.hooks.now are c.loop-place.place c.index-hooks-place.result c.after_token-method.result c.loop-place-test.true c.loop-place.invariant.within c.index-hooks-place.is c.after_token-method.ensures c.in_default.ensures.own;
      cost = λ e. absurd (none_there c.args.hooks.now (c.loop-place.place - 1) (omega arith) e);
    }
