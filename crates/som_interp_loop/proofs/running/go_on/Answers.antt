use Rattle.std.proofs.Common.{Ok, Err, true, refl, sym, ap, subst, ◌∙◌}
use Rattle.std.proofs.lemmas.Result.{err_from_is_err_and}
use Rattle.som_interp_loop.specs.Ran.{RanOn}
use Rattle.som_interp_loop.proofs.Joining.{calm_both, counts_both}
use Rattle.som_interp_loop.proofs.Going.{ran_on}
use Rattle.som_interp_loop.proofs.Lowering.{goes_lower}
use Rattle.som_interp_loop.proofs.running.go_on.Goals as goal

pub returns-clause-ran : goal.returns-clause-ran
returns-clause-ran g c =
    let b = c.in_ok-burst.ensures in
    ran_on _ _ _ _ b.shows b.prefix _ _ _ _ _ _ _ _ _ _ b.ran c.step.ensures.stepped c.step.ensures.counted

pub returns-clause-goes : goal.returns-clause-goes
returns-clause-goes g c e =
    let b = c.in_ok-burst.ensures in
    goes_lower _ _ _ _ _ _ b.somewhere (rw e at c.step.ensures.stepped) _ b.lowers
