use Rattle.som_rekey_laws.proofs.OwnersKept.{owner_kept, owner_named, signature_kept, owner_signature_kept}
use Rattle.som_rekey_laws.proofs.members.rekeyed_owner_law.Goals as goal

pub returns-clause-owner : goal.returns-clause-owner
returns-clause-owner c = owner_kept

pub returns-clause-named : goal.returns-clause-named
returns-clause-named c = owner_named

pub returns-clause-signature : goal.returns-clause-signature
returns-clause-signature c = signature_kept

pub returns-clause-of_owner : goal.returns-clause-of_owner
returns-clause-of_owner c = owner_signature_kept
