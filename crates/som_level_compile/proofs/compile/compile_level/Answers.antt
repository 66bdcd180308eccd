use Rattle.som_level_compile.proofs.LevelLaws.{level_none_built, level_written, program_fits, program_small}
use Rattle.som_level_compile.proofs.compile.compile_level.Goals as goal

pub returns-in-Err : goal.returns-in-Err
returns-in-Err c =
    let a = c.in-Err.ensures.answers in
    level_none_built c.args.base.now c.args.sizes c.args.client c.args.sources.now c.in_ok-trees.trees a.0 c.in-Err.refused c.unbuilt.result c.in_ok-trees.ensures a.1 a.2 c.unbuilt.ensures

pub encode_level-requires-clause-within : goal.encode_level-requires-clause-within
encode_level-requires-clause-within c =
    let a = c.in-Ok.ensures.answers in
    program_small c.args.base.now c.args.sizes c.args.client c.args.sources.now c.in_ok-trees.trees a.0 c.in-Ok.program c.in_ok-trees.ensures a.1 a.2 c.requires.base c.requires.bytes

pub encode_level-requires-clause-fits : goal.encode_level-requires-clause-fits
encode_level-requires-clause-fits c =
    let a = c.in-Ok.ensures.answers in
    program_fits c.args.base.now c.args.sizes c.args.client c.args.sources.now c.in_ok-trees.trees a.0 c.in-Ok.program c.in_ok-trees.ensures a.1 a.2 c.requires.sizes

pub returns : goal.returns
returns c =
    let a = c.in-Ok.ensures.answers in
    level_written c.args.base.now c.args.sizes c.args.client c.args.sources.now c.in_ok-trees.trees a.0 c.in-Ok.program c.in_ok-trees.ensures a.1 a.2 c.in_ok-encode_level.field-0 c.in_ok-encode_level.ensures.image
