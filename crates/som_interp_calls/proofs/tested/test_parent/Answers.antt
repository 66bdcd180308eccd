use Rattle.som_machine_laws.specs.Passed.{passes_parent}
use Rattle.som_interp_state.specs.Named.{setting}
use Rattle.som_interp_state.specs.Standing.{here_shown}
use Rattle.som_values.specs.Shown.{all_shown, key_of, showing}
use Rattle.som_interp_calls.proofs.Passing.{fails_in}
use Rattle.som_interp_calls.proofs.tested.test_parent.Goals as goal

pub returns-in-Err-clause-passes : goal.returns-in-Err-clause-passes
returns-in-Err-clause-passes c l xs cs h r owner =
    fails_in (setting l xs cs) h c.args.from
    (λ next. passes_parent l.world next (here_shown (setting l xs cs) c.args.me c.args.from) (key_of l.keys c.args.parent) r (all_shown (showing l.keys xs) c.args.args.items))
    c.in-Err.stopped c.stop.result c.stop.ensures (c.in-Err.ensures.passes l xs cs h r owner)
