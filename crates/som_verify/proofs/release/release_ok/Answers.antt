use Rattle.som_verify.proofs.Conforming.{release_if_ok, release_refuses}
use Rattle.som_verify.proofs.release.release_ok.Goals as goal

pub returns-clause-conforms : goal.returns-clause-conforms
returns-clause-conforms c = release_if_ok c.args.release.now c.all_rules_hold.result c.all_rules_hold.ensures

pub returns-clause-refuses : goal.returns-clause-refuses
returns-clause-refuses c = λ b e ok. release_refuses c.args.release.now c.all_rules_hold.result b c.all_rules_hold.ensures e ok
