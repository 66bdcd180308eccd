use Rattle.som_link_check.proofs.Pairs.{base_told}
use Rattle.som_link_check.proofs.pair.look_at_base.Goals as goal

pub returns : goal.returns
returns c = base_told (Unit {0}) c.args.client.now c.args.library.now c.in_ok-shown.shown c.in-Err.breach c.compatible.result c.incompatible.result c.in_ok-shown.ensures c.compatible.ensures c.in-Err.is c.incompatible.ensures
