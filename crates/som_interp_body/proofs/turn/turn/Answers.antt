use Rattle.std.proofs.Common.{◌≡◌, ◌-◌, suc, arith}
use Rattle.som_interp_body.proofs.Special.{turn_spent, turn_goes}
use Rattle.som_interp_body.proofs.turn.turn.Goals as goal

pub returns-then-fuel-eq0-clause-comes : goal.returns-then-fuel-eq0-clause-comes
returns-then-fuel-eq0-clause-comes c l kn main made os t closed is = turn_spent l kn main made os t closed c.args.body.now c.args.fuel.now c.if-fuel-eq0.true is

pub returns-clause-comes : goal.returns-clause-comes
returns-clause-comes c l kn main made os t closed is =
    let e : c.args.fuel.now ≡ suc (c.args.fuel.now - 1) = omega (arith, c.if-fuel-eq0.false) in
    turn_goes l kn main made os t closed c.args.body.now c.args.fuel.now (c.args.fuel.now - 1) e is
