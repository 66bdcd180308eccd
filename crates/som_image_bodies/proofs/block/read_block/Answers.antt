use Rattle.std.proofs.Common.{sym, subst}
use Rattle.som_image_fields.specs.Fields.{Gives}
use Rattle.som_image_fields.specs.Fitting.{levels_left}
use Rattle.som_image_bodies.proofs.NamedStmts.{block_is}
use Rattle.som_image_bodies.proofs.block.read_block.Goals as goal

pub returns-clause-exact : goal.returns-clause-exact
returns-clause-exact c = subst (Gives c.read_statements.result) (sym (block_is c.args.directory.now c.args.ranges.now (levels_left c.args.level) c.args.bytes.now c.args.place)) c.read_statements.ensures.exact
