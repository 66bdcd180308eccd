use Rattle.som_release_laws.proofs.Clients.{loaded}
use Rattle.som_release_laws.proofs.Loading.{loadable_both}
use Rattle.som_release_laws.proofs.laws.loading_law.Goals as goal

pub returns-clause-loadable : goal.returns-clause-loadable
returns-clause-loadable c = loadable_both

pub returns-clause-loads : goal.returns-clause-loads
returns-clause-loads c = loaded
