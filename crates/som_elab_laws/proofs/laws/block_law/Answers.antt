use Rattle.som_elab_laws.proofs.StatementLaws.{text_says}
use Rattle.som_elab_laws.proofs.laws.block_law.Goals as goal

pub returns : goal.returns
returns c = λ a at scope b block h. text_says a at b scope block h
