use Rattle.std.proofs.Common.{◌∙◌}
use Rattle.som_body.proofs.Theorem.{main_read}
use Rattle.som_body.proofs.WithinLimits.{main_tree_within}
use Rattle.som_body.proofs.parse.parse_main.Goals as goal

pub returns-in-Ok-main_file-clause-answer : goal.returns-in-Ok-main_file-clause-answer
returns-in-Ok-main_file-clause-answer c = main_read c.args.tokens.now c.as_slice.result.now c.main_file.new.left.rest.now c.in-Ok-main_file.tree (c.as_slice.ensures.value ∙ c.in-Ok.ensures.tokens) c.in-Ok-main_file.ensures

pub returns-in-Ok-main_file-clause-within : goal.returns-in-Ok-main_file-clause-within
returns-in-Ok-main_file-clause-within c =
    main_tree_within c.args.tokens.now c.in-Ok-main_file.tree
    (main_read c.args.tokens.now c.as_slice.result.now c.main_file.new.left.rest.now c.in-Ok-main_file.tree (c.as_slice.ensures.value ∙ c.in-Ok.ensures.tokens) c.in-Ok-main_file.ensures)
    c.requires
