use Rattle.som_interp_loop.specs.Scene.{scene}
use Rattle.som_interp_task.proofs.AtFirst.{at_main, own_agree, stands_main}
use Rattle.som_interp_task.proofs.starting.first_law.Goals as goal

pub returns : goal.returns
returns c ks w l known main made os t cs agree can codes first =
    let own = own_agree ks w l known agree in
    stands_main l known main made os t cs first codes own can
    (c.start_law.ensures (scene l known main made os t 0) own can (at_main l known main made os t cs first codes own can))
