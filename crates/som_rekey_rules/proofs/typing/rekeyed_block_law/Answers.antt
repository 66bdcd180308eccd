use Rattle.som_rekey_rules.proofs.StatementsRekeyed.{block_kept}
use Rattle.som_rekey_rules.proofs.typing.rekeyed_block_law.Goals as goal

pub returns : goal.returns
returns c f names kk apart old new like told at stands scope scoped b n = (block_kept f names kk apart old new like told at stands b n scope scoped).same
