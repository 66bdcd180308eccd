use Rattle.std.proofs.Common.{◌≡◌, ◌+◌, ◌≤◌, ◌<◌, false, length}
use Rattle.som_model.specs.declared.limits.TheConstants.{MAX_TEXT}
use Rattle.som_lex.specs.Lexeme.{literal_at}
use Rattle.som_lex.proofs.literal.literal.Given as goal

abbrev pub invariant-loop-rest : goal.invariant-loop-rest
invariant-loop-rest l = record {
  same : literal_at l.start l.after l.count l.at l.rest ≡ literal_at l.start false 0 (l.start + 1) l.fn.bytes;
  place : l.at + length l.rest ≡ l.start + 1 + length l.fn.bytes;
  few : l.count ≤ MAX_TEXT;
  low : l.start < l.at;
}

abbrev pub decreases-loop-rest : goal.decreases-loop-rest
decreases-loop-rest l = length l.rest
