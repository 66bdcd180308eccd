use Rattle.som_verify_classes.proofs.PlainWhole.{program_says, say_program}
use Rattle.som_verify.proofs.laws.program_law.Goals as goal

pub returns : goal.returns
returns c = λ p. (program_says p, say_program p)
