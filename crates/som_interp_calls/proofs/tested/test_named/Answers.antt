use Rattle.som_machine_laws.specs.Passed.{passes_named}
use Rattle.som_interp_state.specs.Named.{setting}
use Rattle.som_interp_state.specs.Standing.{place_shown}
use Rattle.som_trace.specs.Events.{manner_of}
use Rattle.som_values.specs.Shown.{all_shown, shown, showing}
use Rattle.som_interp_calls.proofs.Passing.{fails_in}
use Rattle.som_interp_calls.proofs.tested.test_named.Goals as goal

pub returns-in-Err-clause-passes : goal.returns-in-Err-clause-passes
returns-in-Err-clause-passes g c xs cs h holds seen all =
    let l = g.R.Runtime.linked c.args.runtime.now in
    fails_in (setting l xs cs) h c.args.from
    (λ next. passes_named l.world next (place_shown (setting l xs cs) c.args.from) (manner_of c.args.manner) c.args.wanted.now c.args.name.now (shown (showing l.keys xs) c.args.on.now) (all_shown (showing l.keys xs) c.args.args.items))
    c.in-Err.stopped c.stop.result c.stop.ensures (c.in-Err.ensures.passes xs cs h holds seen all)
