use Rattle.som_rekey_laws.proofs.BodiesKept.{held_kept, forwards_kept, selected_kept, implementation_kept}
use Rattle.som_rekey_laws.proofs.bodies.rekeyed_body_law.Goals as goal

pub returns-clause-held : goal.returns-clause-held
returns-clause-held c = held_kept

pub returns-clause-forwards : goal.returns-clause-forwards
returns-clause-forwards c = forwards_kept

pub returns-clause-selected : goal.returns-clause-selected
returns-clause-selected c = selected_kept

pub returns-clause-implementation : goal.returns-clause-implementation
returns-clause-implementation c = implementation_kept
