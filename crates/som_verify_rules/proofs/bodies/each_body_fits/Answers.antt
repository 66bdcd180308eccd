use Rattle.std.proofs.Common.{arith}
use Rattle.std.proofs.lemmas.Grind.{common_steps}
use Rattle.som_verify_rules.proofs.bodies.each_body_fits.Goals as goal

pub returns-then-not-fits : goal.returns-then-not-fits
returns-then-not-fits c = c.refusal.ensures _ (grind (arith, common_steps))
