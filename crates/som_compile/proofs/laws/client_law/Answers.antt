use Rattle.som_compile.proofs.ClientLaws.{some_client, one_client}
use Rattle.som_compile.proofs.laws.client_law.Goals as goal

pub returns-clause-some : goal.returns-clause-some
returns-clause-some c = some_client

pub returns-clause-one : goal.returns-clause-one
returns-clause-one c = one_client
