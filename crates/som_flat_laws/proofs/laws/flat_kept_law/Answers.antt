use Rattle.som_flat_laws.proofs.FlatKeys.{flat_ancestors, flat_owner, flat_signature}
use Rattle.som_flat_laws.proofs.laws.flat_kept_law.Goals as goal

pub returns-clause-ancestors : goal.returns-clause-ancestors
returns-clause-ancestors c = flat_ancestors

pub returns-clause-owners : goal.returns-clause-owners
returns-clause-owners c = flat_owner

pub returns-clause-signatures : goal.returns-clause-signatures
returns-clause-signatures c = flat_signature
