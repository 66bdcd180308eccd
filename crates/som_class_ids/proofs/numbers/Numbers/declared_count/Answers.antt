use Rattle.std.proofs.Common.{◌∙◌, sym, arith}
use Rattle.som_class_ids.proofs.Declaring.{classes_length}
use Rattle.som_class_ids.proofs.Numbered.{are_first, few_declared}
use Rattle.som_class_ids.proofs.numbers.Numbers.declared_count.Goals as goal

pub overflow_cast-result : goal.overflow_cast-result
overflow_cast-result c = omega (arith, c.len.ensures, few_declared c.self.inside.classes c.self.inside.positions c.self.invariant.numbers)

pub returns-clause-count : goal.returns-clause-count
returns-clause-count c = rw (← c.self.view_is) (c.len.ensures ∙ sym (classes_length c.self.inside.classes))

pub returns-clause-first : goal.returns-clause-first
returns-clause-first c = rw (← c.self.view_is) (are_first c.self.inside.classes c.self.inside.positions c.self.invariant.numbers)

pub returns-clause-declared : goal.returns-clause-declared
returns-clause-declared c = rw (← c.self.view_is) c.self.invariant.numbers.declared
