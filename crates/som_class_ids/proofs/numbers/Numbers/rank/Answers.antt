use Rattle.som_class_ids.specs.Classes.{classes_of}
use Rattle.som_class_ids.proofs.Numbered.{rank_key, within_positions}
use Rattle.som_class_ids.proofs.numbers.Numbers.rank.Goals as goal

pub position_of-requires : goal.position_of-requires
position_of-requires c = rw c.as_slice.ensures (within_positions (classes_of c.self.inside.classes) c.self.inside.positions c.self.invariant.numbers c.args.class (rw (← c.self.view_is) at c.requires))

pub returns : goal.returns
returns c = rw (← c.self.view_is) (rank_key (classes_of c.self.inside.classes) c.self.inside.positions c.self.invariant.numbers c.args.class c.position_of.result.now (rw c.as_slice.ensures at c.position_of.ensures))
