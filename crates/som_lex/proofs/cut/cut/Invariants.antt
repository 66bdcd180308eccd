use Rattle.std.proofs.Common.{◌≡◌, ◌+◌, ◌++◌, List, length, drop}
use Rattle.som_lex.specs.declared.token.LexToken.{LexToken}
use Rattle.som_lex.specs.declared.fault.LexFault.{LexFault}
use Rattle.som_lex.specs.Line.{is_fresh}
use Rattle.som_lex.specs.Cut.{IsCut, Stops}
use Rattle.som_lex.proofs.cut.cut.Given as goal

abbrev pub invariant-loop-rest : goal.invariant-loop-rest
invariant-loop-rest l = record {
  cuts : (ts : List LexToken) → IsCut l.fn.source l.at ts → IsCut l.fn.source 0 (l.list ++ ts);
  stops : (f : LexFault) → Stops l.fn.source l.at f → Stops l.fn.source 0 f;
  left : l.rest ≡ drop l.at l.fn.source;
  fresh : l.fresh ≡ is_fresh l.fn.source l.at;
  place : l.at + length l.rest ≡ length l.fn.source;
}

abbrev pub decreases-loop-rest : goal.decreases-loop-rest
decreases-loop-rest l = length l.rest
