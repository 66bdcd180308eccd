use Rattle.som_verify.proofs.Conforming.{conforms_release, release_conforms}
use Rattle.som_verify.proofs.laws.release_law.Goals as goal

pub returns : goal.returns
returns c = λ r. (conforms_release r, release_conforms r)
