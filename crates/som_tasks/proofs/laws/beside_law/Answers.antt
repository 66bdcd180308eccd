use Rattle.som_tasks.proofs.Sparing.{beside, leaves}
use Rattle.som_tasks.proofs.laws.beside_law.Goals as goal

pub returns : goal.returns
returns c = λ old new other units shows prefix before after answer x same stands apart. beside old new other (leaves old new units shows prefix before after answer x) same stands apart
