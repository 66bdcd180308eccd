use Rattle.som_generator.proofs.Standing.{program_read_conforms}
use Rattle.som_generator.proofs.clients.build.Goals as goal

pub look_at_rules-requires : goal.look_at_rules-requires
look_at_rules-requires c = program_read_conforms c.args.base.now c.args.texts.now c.in_ok-image.image c.in_ok-program.program c.requires.base c.in_ok-image.ensures c.in_ok-program.ensures
