use Rattle.std.proofs.Common.{sym}
use Rattle.som_image_bodies.proofs.Levels.{stmt_steps}
use Rattle.som_image_bodies.proofs.stmt.+statements.Goals as goal

pub read_stmt-returns-clause-exact : goal.read_stmt-returns-clause-exact
read_stmt-returns-clause-exact t c = stmt_steps c.args.directory.now c.args.ranges.now c.args.bytes.now c.args.place c.args.left c.in_ok-tag.tag c.read_tagged_stmt.result c.if-left-eq0.false (sym c.in_ok-tag.ensures.exact) c.read_tagged_stmt.ensures.exact
