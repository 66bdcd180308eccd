use Rattle.som_model.specs.Compatible.{release_of}
use Rattle.som_compat.proofs.Known.{known}
use Rattle.som_compat.proofs.MetaLaw.{meta_law}
use Rattle.som_compat.proofs.laws.metaclass_law.Goals as goal

pub returns : goal.returns
returns c = λ i ok x n dec. meta_law (release_of i) (known i ok) x n dec
