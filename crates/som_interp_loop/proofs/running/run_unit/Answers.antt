use Rattle.std.proofs.Common.{◌≤◌, Ok, Err, true, false, refl, sym, ap, subst, ◌∙◌}
use Rattle.std.proofs.lemmas.Result.{err_from_is_err_and}
use Rattle.som_interp_loop.specs.Ran.{RanOn}
use Rattle.som_interp_loop.proofs.Joining.{calm_none, calm_both, counts_none, counts_both}
use Rattle.som_interp_loop.proofs.Going.{ran_none, ran_then}
use Rattle.som_interp_loop.proofs.Lowering.{fewer, same_units}
use Rattle.som_interp_loop.proofs.running.run_unit.Goals as goal

pub loop-moves-init : goal.loop-moves-init
loop-moves-init g c = record {
  somewhere = c.requires;
  ran = ran_none _ _ _ _ _;
  shows = refl;
  prefix = refl;
  lent = refl;
  counts = counts_none _;
  calms = calm_none _ _;
  units = sym c.fuel-fuel.ensures;
  all = c.fuel-fuel.ensures;
}

pub returns-in_err-go_on-clause-ran : goal.returns-in_err-go_on-clause-ran
returns-in_err-go_on-clause-ran g c =
    let i = c.loop-moves.invariant in
    let p = err_from_is_err_and c.from_residual.result c.from_residual.ensures.1 in
    subst (RanOn (g.M.Moves.shows c.args.moves.now) (g.M.Moves.prefix c.args.moves.now) (g.M.Moves.written c.args.moves.now) (g.M.Moves.written c.go_on.new.moves) (g.M.Moves.counted c.args.moves.now) (g.M.Moves.counted c.go_on.new.moves) (g.M.Moves.scene c.args.moves.now) (g.M.Moves.scene c.go_on.new.moves))
    (sym (p.1 ∙ ap (λ z. Err z) p.2))
    (ran_then _ _ _ _ i.shows i.prefix _ _ _ _ _ _ _ _ _ _ i.ran c.in_err-go_on.ensures.ran)

pub returns-then-not-branch-clause-ran : goal.returns-then-not-branch-clause-ran
returns-then-not-branch-clause-ran g c =
    let i = c.loop-moves.invariant in
    ran_then _ _ _ _ i.shows i.prefix _ _ _ _ _ _ _ _ _ _ i.ran (rw c.if-not-branch.true at c.in_ok-go_on.ensures.ran)

pub returns-then-fuel-clause-ran : goal.returns-then-fuel-clause-ran
returns-then-fuel-clause-ran g c =
    let i = c.loop-moves.invariant in
    ran_then _ _ _ _ i.shows i.prefix _ _ _ _ _ _ _ _ _ _ i.ran (rw c.if-not-branch.false at c.in_ok-go_on.ensures.ran)

pub loop-moves-smaller : goal.loop-moves-smaller
loop-moves-smaller g c =
    let i = c.loop-moves.invariant in
    fewer c.fuel-fuel.result _ _ _ _ i.units (subst (λ z. c.fuel-fuel.result ≤ z) c.fuel.ensures c.if-fuel.false)
    (c.in_ok-go_on.ensures.goes (ap Ok c.if-not-branch.false)).lower

pub loop-moves-preserved : goal.loop-moves-preserved
loop-moves-preserved g c =
    let i = c.loop-moves.invariant in
    let goes = c.in_ok-go_on.ensures.goes (ap Ok c.if-not-branch.false) in
    record {
      somewhere = goes.there;
      ran = ran_then _ _ _ _ i.shows i.prefix _ _ _ _ _ _ _ _ _ _ i.ran (rw c.if-not-branch.false at c.in_ok-go_on.ensures.ran);
      shows = c.in_ok-go_on.ensures.shows ∙ i.shows;
      prefix = c.in_ok-go_on.ensures.prefix ∙ i.prefix;
      lent = c.in_ok-go_on.ensures.lent ∙ i.lent;
      counts = counts_both _ _ _ _ i.counts (rw c.if-not-branch.false at c.in_ok-go_on.ensures.counts);
      calms = calm_both _ _ _ _ _ _ _ i.calms (rw c.if-not-branch.false at c.in_ok-go_on.ensures.calms);
      units = same_units c.fuel-fuel.result _ _ i.units goes.units (subst (λ z. c.fuel-fuel.result ≤ z) c.fuel.ensures c.if-fuel.false);
      all = i.all;
    }

pub returns-then-fuel-clause-somewhere : goal.returns-then-fuel-clause-somewhere
returns-then-fuel-clause-somewhere g c e = (c.in_ok-go_on.ensures.goes (ap Ok c.if-not-branch.false)).there
