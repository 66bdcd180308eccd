use Rattle.som_class_ids.specs.Classes.{classes_of}
use Rattle.som_class_ids.proofs.Numbered.{descent, marked, within_positions}
use Rattle.som_class_ids.proofs.numbers.Numbers.is_a.Goals as goal

pub is_marked-requires-clause-class : goal.is_marked-requires-clause-class
is_marked-requires-clause-class c = rw c.as_slice.ensures (within_positions (classes_of c.self.inside.classes) c.self.inside.positions c.self.invariant.numbers c.args.class (rw (← c.self.view_is) at c.requires.class))

pub is_marked-requires-clause-marked : goal.is_marked-requires-clause-marked
is_marked-requires-clause-marked c = rw c.as_slice.ensures (marked (classes_of c.self.inside.classes) c.self.inside.positions c.self.invariant.numbers)

pub returns : goal.returns
returns c = rw (← c.self.view_is, c.is_marked.ensures, c.as_slice.ensures)
    (descent (classes_of c.self.inside.classes) c.self.inside.positions c.self.invariant.numbers c.args.class c.args.ancestor (rw (← c.self.view_is) at c.requires.class) (rw (← c.self.view_is) at c.requires.ancestor))
