use Rattle.som_generator.proofs.Standing.{read_conforms}
use Rattle.som_generator.proofs.libraries.build.Goals as goal

pub look_at_rules-requires : goal.look_at_rules-requires
look_at_rules-requires c = read_conforms c.args.texts.now c.in_ok-image.image c.in_ok-release.release c.in_ok-image.ensures c.in_ok-release.ensures
