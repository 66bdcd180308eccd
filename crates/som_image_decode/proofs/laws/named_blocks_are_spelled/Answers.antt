use Rattle.std.proofs.Common.{arith}
use Rattle.som_image_decode.proofs.NamedStmts.{block_forth}
use Rattle.som_image_decode.proofs.StmtsBack.{block_back}
use Rattle.som_image_decode.proofs.laws.named_blocks_are_spelled.Goals as goal

pub returns-clause-forth : goal.returns-clause-forth
returns-clause-forth c = λ d cs b tells single fits. block_forth d cs tells single 32 1 (omega arith) b fits

pub returns-clause-back : goal.returns-clause-back
returns-clause-back c = λ d cs b bytes tells given.
    let f = block_back d cs tells 32 1 (omega arith) b bytes given in
    record { block = f.it; spelled = f.spelled; fits = f.fits; named = f.names }
