use Rattle.std.proofs.Common.{◌≡◌, ◌++◌, false, length}
use Rattle.som_lex.specs.Values.{inside_of}
use Rattle.som_lex.proofs.value.unescaped.Given as goal

abbrev pub invariant-loop-rest : goal.invariant-loop-rest
invariant-loop-rest l = l.text.items ++ inside_of l.after l.rest ≡ inside_of false l.fn.bytes

abbrev pub decreases-loop-rest : goal.decreases-loop-rest
decreases-loop-rest l = length l.rest
