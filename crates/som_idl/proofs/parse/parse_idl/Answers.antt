use Rattle.std.proofs.Common.{◌∙◌}
use Rattle.som_idl.proofs.Theorem.{text_read}
use Rattle.som_idl.proofs.WithinLimits.{tree_within}
use Rattle.som_idl.proofs.parse.parse_idl.Goals as goal

pub returns-in-Ok-file-clause-answer : goal.returns-in-Ok-file-clause-answer
returns-in-Ok-file-clause-answer c = text_read c.args.tokens.now c.as_slice.result.now c.file.new.left.rest.now c.in-Ok-file.tree (c.as_slice.ensures.value ∙ c.in-Ok.ensures.tokens) c.in-Ok-file.ensures

pub returns-in-Ok-file-clause-within : goal.returns-in-Ok-file-clause-within
returns-in-Ok-file-clause-within c =
    tree_within c.args.tokens.now c.in-Ok-file.tree
    (text_read c.args.tokens.now c.as_slice.result.now c.file.new.left.rest.now c.in-Ok-file.tree (c.as_slice.ensures.value ∙ c.in-Ok.ensures.tokens) c.in-Ok-file.ensures)
    c.requires
