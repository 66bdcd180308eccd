use Rattle.som_cmd.proofs.FuelLaws.{DigitsSoFar}
use Rattle.som_cmd.proofs.words.value_of.Given as goal

abbrev pub invariant-loop-digit : goal.invariant-loop-digit
invariant-loop-digit l = DigitsSoFar l.digits l.digit-index l.value
