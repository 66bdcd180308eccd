use Rattle.std.proofs.Common.{◌≡◌, ◌+◌, length}
use Rattle.som_lex.specs.Line.{line_end}
use Rattle.som_lex.proofs.line.line_len.Given as goal

abbrev pub invariant-loop-rest : goal.invariant-loop-rest
invariant-loop-rest l = record {
  same : l.len + line_end l.rest ≡ line_end l.fn.bytes;
  place : l.len + length l.rest ≡ length l.fn.bytes;
}

abbrev pub decreases-loop-rest : goal.decreases-loop-rest
decreases-loop-rest l = length l.rest
