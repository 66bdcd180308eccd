use Rattle.std.proofs.Common.{◌∙◌}
use Rattle.som_body.proofs.Theorem.{bodies_read}
use Rattle.som_body.proofs.WithinLimits.{bodies_tree_within}
use Rattle.som_body.proofs.parse.parse_bodies.Goals as goal

pub returns-in-Ok-body_file-clause-answer : goal.returns-in-Ok-body_file-clause-answer
returns-in-Ok-body_file-clause-answer c = bodies_read c.args.tokens.now c.as_slice.result.now c.body_file.new.left.rest.now c.in-Ok-body_file.tree (c.as_slice.ensures.value ∙ c.in-Ok.ensures.tokens) c.in-Ok-body_file.ensures

pub returns-in-Ok-body_file-clause-within : goal.returns-in-Ok-body_file-clause-within
returns-in-Ok-body_file-clause-within c =
    bodies_tree_within c.args.tokens.now c.in-Ok-body_file.tree
    (bodies_read c.args.tokens.now c.as_slice.result.now c.body_file.new.left.rest.now c.in-Ok-body_file.tree (c.as_slice.ensures.value ∙ c.in-Ok.ensures.tokens) c.in-Ok-body_file.ensures)
    c.requires
