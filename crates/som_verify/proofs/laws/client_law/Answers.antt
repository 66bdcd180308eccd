use Rattle.som_verify.proofs.Conforming.{conforms_program, program_conforms}
use Rattle.som_verify.proofs.laws.client_law.Goals as goal

pub returns : goal.returns
returns c = λ p. (conforms_program p, program_conforms p)
