use Rattle.std.proofs.Common.{◌≡◌, drop}
use Rattle.som_model.specs.Lists.{some}
use Rattle.som_tables.specs.Rows.{same_token}
use Rattle.som_test_examples.proofs.sample.has_token.Given as goal

abbrev pub invariant-loop-other : goal.invariant-loop-other
invariant-loop-other l = some (same_token l.token) (drop l.other-index l.tokens) ≡ some (same_token l.token) l.tokens
