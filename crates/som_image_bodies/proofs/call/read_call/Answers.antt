use Rattle.std.proofs.Common.{sym}
use Rattle.som_image_bodies.proofs.Levels.{call_steps}
use Rattle.som_image_bodies.proofs.call.read_call.Goals as goal

pub returns-clause-exact : goal.returns-clause-exact
returns-clause-exact c = call_steps c.args.directory.now c.args.ranges.now c.args.bytes.now c.args.place c.args.left c.in_ok-tag.tag c.read_tagged_call.result c.if-left-eq0.false (sym c.in_ok-tag.ensures.exact) c.read_tagged_call.ensures.exact
