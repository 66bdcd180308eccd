use Rattle.som_interp_dispatch.proofs.Owning.{call_usable, self_usable}
use Rattle.som_interp_dispatch.proofs.Naming.{named_fails, named_of_equal}
use Rattle.som_interp_state.specs.Named.{setting}
use Rattle.som_interp_state.specs.Standing.{place_shown}
use Rattle.som_trace.specs.Events.{manner_of}
use Rattle.som_values.specs.Shown.{all_shown, shown, showing}
use Rattle.som_interp_dispatch.proofs.passed.pass_named.Goals as goal

pub returns-in-Ok-clause-usable : goal.returns-in-Ok-clause-usable
returns-in-Ok-clause-usable g c xs cs from on args = call_usable _ _ xs cs _ _ from (self_usable _ _ _ _ _ _ c.in-Ok.ensures.held on) tt c.in-Ok.ensures.token args

pub returns-in-Err-clause-passes : goal.returns-in-Err-clause-passes
returns-in-Err-clause-passes g c xs cs h holds on args next add t here =
    let l = g.R.Runtime.linked c.args.runtime.now in
    let s = showing l.keys xs in
    named_fails l.world next (place_shown (setting l xs cs) c.args.from) (manner_of c.args.manner) c.args.wanted.now c.args.name.now (shown s c.args.on.now) (all_shown s c.args.args.items) c.in-Err.fault add t h here
    (named_of_equal l.world h c.args.wanted.now c.args.name.now (shown s c.args.on.now) s c.in-Err.fault c.as_slice.result.now c.args.args.items c.as_slice.ensures.value (λ seen. c.in-Err.ensures.means xs h holds on seen) args)
