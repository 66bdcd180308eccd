use Rattle.som_cmd_tasks.proofs.Comparing.{shown_conforms}
use Rattle.som_cmd_tasks.proofs.fitting.look_at_bases.Goals as goal

pub look_at_each-requires-clause-library : goal.look_at_each-requires-clause-library
look_at_each-requires-clause-library c = shown_conforms c.args.release.now c.in_ok-shown.shown c.in_ok-shown.ensures c.requires.release c.requires.release_within
