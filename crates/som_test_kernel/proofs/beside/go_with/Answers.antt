use Rattle.som_test_stepping.proofs.Staying.{at_first}
use Rattle.som_test_kernel.proofs.beside.go_with.Goals as goal

pub take_rounds-requires : goal.take_rounds-requires
take_rounds-requires g c =
    let r = c.args.kernel.now in
    at_first (g.R.Runtime.linked r) (g.R.ClassKeys.known r) (g.R.Runtime.program r) (g.R.Classes.made r) c.new-objects.result c.args.first.now c.in_ok-second.second c.requires.stands c.in_ok-second.ensures.stands c.requires.none
