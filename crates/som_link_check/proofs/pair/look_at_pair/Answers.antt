use Rattle.som_link_check.proofs.Pairs.{base_conforms, bound, release_conforms}
use Rattle.som_link_check.proofs.pair.look_at_pair.Goals as goal

pub look_at_base-requires-clause-library : goal.look_at_base-requires-clause-library
look_at_base-requires-clause-library c = release_conforms c.args.library.now c.in_ok-look_at_library.ensures.conforms c.requires.library

pub look_at_base-requires-clause-client : goal.look_at_base-requires-clause-client
look_at_base-requires-clause-client c = base_conforms c.args.client.now c.in_ok-look_at_client.ensures.conforms c.requires.client

pub returns-clause-binds : goal.returns-clause-binds
returns-clause-binds c = bound c.args.library.now c.args.client.now c.requires.library c.requires.client c.in_ok-look_at_library.ensures.conforms c.in_ok-look_at_client.ensures.conforms c.look_at_base.result c.look_at_base.ensures
