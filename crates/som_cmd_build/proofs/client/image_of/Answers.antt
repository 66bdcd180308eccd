use Rattle.som_cmd_build.proofs.BaseLaws.{is_base}
use Rattle.som_cmd_build.proofs.client.image_of.Goals as goal

pub compile_client-requires-clause-base : goal.compile_client-requires-clause-base
compile_client-requires-clause-base c = is_base c.in_ok-base.base c.args.parts.now.base c.in_ok-base.ensures c.requires.conforms c.requires.within
