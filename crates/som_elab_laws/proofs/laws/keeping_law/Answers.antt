use Rattle.som_elab_laws.proofs.KeepingLaws.{keeping_law}
use Rattle.som_elab_laws.proofs.laws.keeping_law.Goals as goal

pub returns : goal.returns
returns c = keeping_law
