use Rattle.som_elab.proofs.Conforms.{declarations_hold}
use Rattle.som_elab_laws.proofs.KeepingLaws.{keeping_law}
use Rattle.som_elab_laws.proofs.StandingLaws.{bodies_law}
use Rattle.som_elab_laws.proofs.laws.bodies_law.Goals as goal

pub returns : goal.returns
returns c = λ m base is bs conforms keep. bodies_law m base is bs (declarations_hold m base is conforms ((keeping_law m base is conforms).1 keep)).classes
