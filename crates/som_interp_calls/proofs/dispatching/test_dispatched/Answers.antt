use Rattle.std.proofs.Common.{sym, subst}
use Rattle.som_interp_calls.specs.Calling.{PassesIn}
use Rattle.som_machine_laws.specs.Passed.{passes_named}
use Rattle.som_interp_state.specs.Named.{setting}
use Rattle.som_interp_state.specs.Standing.{place_shown}
use Rattle.som_trace.specs.Events.{manner_of}
use Rattle.som_trace.specs.declared.manner.Manner.TheVariants as manners
use Rattle.som_values.specs.Shown.{all_shown, shown, showing}
use Rattle.som_interp_calls.proofs.dispatching.test_dispatched.Goals as goal

pub returns-in-Some-clause-passes : goal.returns-in-Some-clause-passes
returns-in-Some-clause-passes g c xs cs h holds seen all =
    let l = g.R.Runtime.linked c.args.runtime.now in
    subst (λ wanted. PassesIn (setting l xs cs) h c.args.from c.test_named.result (λ next. passes_named l.world next (place_shown (setting l xs cs) c.args.from) (manner_of manners.Dispatch) wanted c.args.name.now (shown (showing l.keys xs) c.args.on.now) (all_shown (showing l.keys xs) c.args.args.items)))
    (sym c.in-Some.ensures.some) (c.test_named.ensures.passes xs cs h holds seen all)

pub returns-in-None-clause-passes : goal.returns-in-None-clause-passes
returns-in-None-clause-passes g c xs cs h holds seen all =
    let l = g.R.Runtime.linked c.args.runtime.now in
    subst (λ wanted. PassesIn (setting l xs cs) h c.args.from c.test_named-in-None.result (λ next. passes_named l.world next (place_shown (setting l xs cs) c.args.from) (manner_of manners.Dispatch) wanted c.args.name.now (shown (showing l.keys xs) c.args.on.now) (all_shown (showing l.keys xs) c.args.args.items)))
    (sym c.in-None.ensures.none) (c.test_named-in-None.ensures.passes xs cs h holds seen all)
