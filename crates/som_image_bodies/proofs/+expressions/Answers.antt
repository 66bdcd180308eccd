use Rattle.std.proofs.Common.{sym}
use Rattle.som_image_bodies.proofs.Levels.{expr_steps}
use Rattle.som_image_bodies.proofs.+expressions.Goals as goal

pub expr::read_expr-returns-clause-exact : goal.expr::read_expr-returns-clause-exact
expr::read_expr-returns-clause-exact t c = expr_steps c.args.directory.now c.args.ranges.now c.args.bytes.now c.args.place c.args.left c.in_ok-tag.tag c.read_tagged_expr.result c.if-left-eq0.false (sym c.in_ok-tag.ensures.exact) c.read_tagged_expr.ensures.exact
