use Rattle.std.proofs.Common.{◌≡◌, take}
use Rattle.som_test_examples.proofs.rows.add_tokens.Given as goal

abbrev pub invariant-loop-token : goal.invariant-loop-token
invariant-loop-token l = l.row ≡ take l.token-index l.tokens
