use Rattle.som_verify_classes.proofs.PlainWhole.{rules_say, say_rules}
use Rattle.som_verify.proofs.laws.rules_law.Goals as goal

pub returns : goal.returns
returns c = λ r. (rules_say r, say_rules r)
