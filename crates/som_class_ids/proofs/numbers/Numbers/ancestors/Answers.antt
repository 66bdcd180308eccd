use Rattle.som_class_ids.specs.Classes.{classes_of}
use Rattle.som_class_ids.proofs.Numbered.{ancestors_keys, ancestors_numbered, within_positions}
use Rattle.som_class_ids.proofs.numbers.Numbers.ancestors.Goals as goal

pub position_of-requires : goal.position_of-requires
position_of-requires c = rw c.as_slice.ensures (within_positions (classes_of c.self.inside.classes) c.self.inside.positions c.self.invariant.numbers c.args.class (rw (← c.self.view_is) at c.requires))

pub returns-clause-numbered : goal.returns-clause-numbered
returns-clause-numbered c = rw (← c.self.view_is) (ancestors_numbered (classes_of c.self.inside.classes) c.self.inside.positions c.self.invariant.numbers c.args.class c.position_of.result.now (rw c.as_slice.ensures at c.position_of.ensures))

pub returns-clause-keys : goal.returns-clause-keys
returns-clause-keys c = rw (← c.self.view_is) (ancestors_keys (classes_of c.self.inside.classes) c.self.inside.positions c.self.invariant.numbers c.args.class c.position_of.result.now (rw c.as_slice.ensures at c.position_of.ensures))
