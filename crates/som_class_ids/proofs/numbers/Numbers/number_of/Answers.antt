use Rattle.std.proofs.Common.{◌∙◌, arith}
use Rattle.som_class_ids.proofs.Declaring.{classes_length}
use Rattle.som_class_ids.proofs.Numbered.{declared_key, declared_numbered}
use Rattle.som_class_ids.proofs.numbers.Numbers.number_of.Goals as goal

pub number_of-requires-clause-noted : goal.number_of-requires-clause-noted
number_of-requires-clause-noted c = rw c.as_slice.ensures c.self.invariant.noted

pub number_of-requires-clause-declared : goal.number_of-requires-clause-declared
number_of-requires-clause-declared c = rw c.as_slice.ensures c.self.invariant.numbers.declared

pub number_of-requires-clause-known : goal.number_of-requires-clause-known
number_of-requires-clause-known c = rw c.as_slice.ensures (rw (← c.self.view_is) at c.requires)

pub returns-clause-declared : goal.returns-clause-declared
returns-clause-declared c = rw (← c.self.view_is) (let w = rw c.as_slice.ensures at c.number_of.ensures.within in omega (arith, w, classes_length c.self.inside.classes))

pub returns-clause-key : goal.returns-clause-key
returns-clause-key c = rw (← c.self.view_is)
    (declared_key c.self.inside.classes c.self.inside.positions c.self.invariant.numbers c.number_of.result (rw c.as_slice.ensures at c.number_of.ensures.within) ∙ (rw c.as_slice.ensures at c.number_of.ensures.key))

pub returns-clause-numbered : goal.returns-clause-numbered
returns-clause-numbered c = rw (← c.self.view_is) (declared_numbered c.self.inside.classes c.self.inside.positions c.self.invariant.numbers c.number_of.result (rw c.as_slice.ensures at c.number_of.ensures.within))
