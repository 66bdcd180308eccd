use Rattle.som_lex.proofs.Literals.{inside_means}
use Rattle.som_lex.proofs.laws.literal_law.Goals as goal

pub returns : goal.returns
returns c = λ inside text rest m. inside_means inside text rest m
