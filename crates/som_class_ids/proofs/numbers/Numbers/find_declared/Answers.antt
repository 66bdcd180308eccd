use Rattle.som_class_ids.specs.Classes.{classes_of}
use Rattle.som_class_ids.proofs.Making.{named_none, named_some}
use Rattle.som_class_ids.proofs.Naming.{number_kept}
use Rattle.som_class_ids.proofs.numbers.Numbers.find_declared.Goals as goal

pub declared_number-requires-clause-noted : goal.declared_number-requires-clause-noted
declared_number-requires-clause-noted c = rw c.as_slice.ensures c.self.invariant.noted

pub declared_number-requires-clause-declared : goal.declared_number-requires-clause-declared
declared_number-requires-clause-declared c = rw c.as_slice.ensures c.self.invariant.numbers.declared

pub returns-clause-some : goal.returns-clause-some
returns-clause-some c = rw (← c.self.view_is)
    (named_some (classes_of c.self.inside.classes) c.self.inside.positions c.self.invariant.numbers c.args.key.now c.declared_number.result
    (number_kept c.self.inside.classes c.self.inside.positions c.self.invariant.numbers c.args.key.now c.declared_number.result (rw c.as_slice.ensures at c.declared_number.ensures.some)))

pub returns-clause-none : goal.returns-clause-none
returns-clause-none c = rw (← c.self.view_is)
    (named_none (classes_of c.self.inside.classes) c.self.inside.positions c.self.invariant.numbers c.args.key.now c.requires c.declared_number.result (rw c.as_slice.ensures at c.declared_number.ensures.none))
