use Rattle.som_rekey_rules.proofs.ExpressionsRekeyed.{expr_kept}
use Rattle.som_rekey_rules.proofs.typing.rekeyed_expression_law.Goals as goal

pub returns : goal.returns
returns c f names kk apart old new like told at stands scope scoped e n = (expr_kept f names kk apart old new like told at stands scope scoped e n).same
