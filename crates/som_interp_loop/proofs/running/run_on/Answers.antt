use Rattle.std.proofs.Common.{Ok, Err, true, false, refl, sym, ap, subst, ◌∙◌}
use Rattle.std.proofs.lemmas.Result.{err_from_is_err_and}
use Rattle.som_interp_loop.specs.Ran.{RanOn, ended}
use Rattle.som_interp_loop.proofs.Joining.{calm_none, calm_both, counts_none, counts_both}
use Rattle.som_interp_loop.proofs.Going.{ran_none, ran_then}
use Rattle.som_interp_loop.proofs.running.run_on.Goals as goal

pub loop-init : goal.loop-init
loop-init g c = record {
  somewhere = c.requires;
  ran = ran_none _ _ _ _ _;
  shows = refl;
  prefix = refl;
  lent = refl;
  counts = counts_none _;
  calms = calm_none _ _;
}

pub returns-in_err-run_unit-clause-ran : goal.returns-in_err-run_unit-clause-ran
returns-in_err-run_unit-clause-ran g c =
    let i = c.loop.invariant in
    let p = err_from_is_err_and c.from_residual.result c.from_residual.ensures.1 in
    subst (λ r. RanOn (g.M.Moves.shows c.args.moves.now) (g.M.Moves.prefix c.args.moves.now) (g.M.Moves.written c.args.moves.now) (g.M.Moves.written c.run_unit.new.moves) (g.M.Moves.counted c.args.moves.now) (g.M.Moves.counted c.run_unit.new.moves) (g.M.Moves.scene c.args.moves.now) (g.M.Moves.scene c.run_unit.new.moves) (ended r))
    (sym (p.1 ∙ ap (λ z. Err z) p.2))
    (ran_then _ _ _ _ i.shows i.prefix _ _ _ _ _ _ _ _ _ _ i.ran c.in_err-run_unit.ensures.ran)

pub loop-preserved : goal.loop-preserved
loop-preserved g c =
    let i = c.loop.invariant in
    record {
      somewhere = c.in_ok-run_unit.ensures.somewhere (ap Ok c.if-branch.true);
      ran = ran_then _ _ _ _ i.shows i.prefix _ _ _ _ _ _ _ _ _ _ i.ran (rw c.if-branch.true at c.in_ok-run_unit.ensures.ran);
      shows = c.in_ok-run_unit.ensures.shows ∙ i.shows;
      prefix = c.in_ok-run_unit.ensures.prefix ∙ i.prefix;
      lent = c.in_ok-run_unit.ensures.lent ∙ i.lent;
      counts = counts_both _ _ _ _ i.counts (rw c.if-branch.true at c.in_ok-run_unit.ensures.counts);
      calms = calm_both _ _ _ _ _ _ _ i.calms (rw c.if-branch.true at c.in_ok-run_unit.ensures.calms);
    }

pub returns-clause-ran : goal.returns-clause-ran
returns-clause-ran g c =
    let i = c.loop.invariant in
    ran_then _ _ _ _ i.shows i.prefix _ _ _ _ _ _ _ _ _ _ i.ran (rw c.if-branch.false at c.in_ok-run_unit.ensures.ran)
