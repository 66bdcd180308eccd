use Rattle.std.proofs.Common.{◌≡◌}
use Rattle.som_meta.specs.Numbering.{tokens_from}
use Rattle.som_class_table.proofs.tokens.class_tokens.Given as goal

abbrev pub invariant-loop-place : goal.invariant-loop-place
invariant-loop-place l = l.tokens ≡ tokens_from l.class 0 l.place
