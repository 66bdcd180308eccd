use Rattle.std.proofs.Common.{arith}
use Rattle.som_cmd.proofs.FuelLaws.{too_much}
use Rattle.som_cmd.proofs.words.value_of.Goals as goal

pub returns-then-value-from : goal.returns-then-value-from
returns-then-value-from c = too_much c.args.digits.now c.loop-digit.digit-index c.loop-digit.value c.loop-digit.invariant (omega (arith, c.if-value-from.true, c.from.ensures))
