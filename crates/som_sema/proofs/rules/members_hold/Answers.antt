use Rattle.som_sema.proofs.Telling.{after_none}
use Rattle.som_sema.proofs.rules.members_hold.Goals as goal

pub returns : goal.returns
returns c = after_none _ _ _ c.in_ok-metaclasses_descend.ensures (after_none _ _ _ c.in_ok-own_types_known.ensures (after_none _ _ _ c.in_ok-names_differ.ensures c.own_variables_differ.ensures))
