use Rattle.som_verify.proofs.Conforming.{program_if_ok, program_refuses}
use Rattle.som_verify.proofs.program.program_ok.Goals as goal

pub returns-clause-conforms : goal.returns-clause-conforms
returns-clause-conforms c = program_if_ok c.args.program.now c.all_rules_hold.result c.all_rules_hold.ensures

pub returns-clause-refuses : goal.returns-clause-refuses
returns-clause-refuses c = λ b e ok. program_refuses c.args.program.now c.all_rules_hold.result b c.all_rules_hold.ensures e ok
