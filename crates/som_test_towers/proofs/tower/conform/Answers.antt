use Rattle.std.proofs.Common.{subst}
use Rattle.som_test_towers.specs.Reading.{AllConform}
use Rattle.som_test_towers.proofs.Standing.{stands}
use Rattle.som_test_towers.proofs.tower.conform.Goals as goal

pub returns : goal.returns
returns c =
    stands c.args.tower.now c.requires.read c.in_ok-release_conforms.ensures (subst AllConform c.as_slice.ensures c.in_ok-all_conform.ensures) c.in_ok-program_conforms.ensures
