use Rattle.som_release_laws.proofs.Loading.{released_loadable}
use Rattle.som_release_laws.proofs.laws.released_law.Goals as goal

pub returns-clause-released : goal.returns-clause-released
returns-clause-released c = released_loadable

pub returns-clause-loaded : goal.returns-clause-loaded
returns-clause-loaded c = λ cs main l. record { faces = l.faces; inherited = l.inherited; bodies = l.bodies; typed = l.typed }
