use Rattle.std.proofs.Common.{◌≡◌, ◌+◌, ◌<◌, false, length}
use Rattle.som_lex.specs.Lexeme.{block_at}
use Rattle.som_lex.proofs.comment.block_comment.Given as goal

abbrev pub invariant-loop-rest : goal.invariant-loop-rest
invariant-loop-rest l = record {
  same : block_at l.start l.starred l.at l.rest ≡ block_at l.start false (l.start + 2) l.fn.bytes;
  place : l.at + length l.rest ≡ l.start + 2 + length l.fn.bytes;
  low : l.start < l.at;
}

abbrev pub decreases-loop-rest : goal.decreases-loop-rest
decreases-loop-rest l = length l.rest
