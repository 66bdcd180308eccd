use Rattle.som_rekey_rules.proofs.ConformingRekeyed.{after_kernel_names, after_kernel_members, types_kept, bodies_kept, blocks_kept, faces_kept}
use Rattle.som_rekey_rules.proofs.rules.rekeyed_rules_law.Goals as goal

pub returns-clause-names : goal.returns-clause-names
returns-clause-names c = after_kernel_names

pub returns-clause-types : goal.returns-clause-types
returns-clause-types c = types_kept

pub returns-clause-members : goal.returns-clause-members
returns-clause-members c = after_kernel_members

pub returns-clause-bodies : goal.returns-clause-bodies
returns-clause-bodies c = bodies_kept

pub returns-clause-blocks : goal.returns-clause-blocks
returns-clause-blocks c = blocks_kept

pub returns-clause-faces : goal.returns-clause-faces
returns-clause-faces c = faces_kept
