use Rattle.som_type_soundness.proofs.Preserving.{blocks_keep, expressions_keep, statements_keep}
use Rattle.som_type_soundness.proofs.laws.preservation_law.Goals as goal

pub returns-clause-expressions : goal.returns-clause-expressions
returns-clause-expressions c = expressions_keep

pub returns-clause-statements : goal.returns-clause-statements
returns-clause-statements c = statements_keep

pub returns-clause-blocks : goal.returns-clause-blocks
returns-clause-blocks c = blocks_keep
