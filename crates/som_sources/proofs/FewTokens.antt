-- A text has no more tokens than bytes.
use Rattle.std.proofs.Common.{ℕ, ◌+◌, ◌≤◌, List, [], ◌∷◌, length, arith}
use Rattle.som_lex.specs.declared.token.LexToken.{LexToken}
use Rattle.som_lex.specs.declared.token.Tokens.{Tokens}
use Rattle.som_lex.specs.Spans.{AreInOrder, AreTokens}
use Rattle.som_lex.proofs.Spans.{in_order}

few_in_order : (low high : ℕ) (ts : List LexToken) → low ≤ high → AreInOrder low high ts → length ts + low ≤ high
few_in_order low high [] le o = omega (arith, le)
few_in_order low high (t ∷ ts) le o = omega (arith, o.0, o.1, few_in_order t.end high ts o.2 o.3)

pub few_tokens : (t : Tokens) → AreTokens t → length t.list ≤ length t.source
few_tokens t h = omega (arith, few_in_order 0 (length t.source) t.list (omega arith) (in_order t.source t.list h))
