use Rattle.std.proofs.Common.{◌≤◌, arith, length}
use Rattle.som_class_ids.specs.Classes.{classes_of}
use Rattle.som_class_ids.proofs.Declaring.{classes_length}
use Rattle.som_class_ids.proofs.Making.{kind_derived, kind_made, kind_proxy}
use Rattle.som_class_ids.proofs.numbers.Numbers.kind.Goals as goal

pub returns-else-number-len-clause-declared : goal.returns-else-number-len-clause-declared
returns-else-number-len-clause-declared c =
    let kl = c.self.inside.classes in
    let le : length (classes_of kl) ≤ c.args.class = omega (arith, c.if-number-len.false, c.number.ensures, c.len.ensures, classes_length kl) in
    rw (← c.self.view_is) ((λ e. absurd (kind_made (classes_of kl) c.self.inside.positions c.self.invariant.numbers c.args.class c.position_of.result.now le (rw c.as_slice.ensures at c.position_of.ensures) e)), (λ lt. absurd (omega (arith, lt, le))))

pub returns-else-number-len-clause-derived : goal.returns-else-number-len-clause-derived
returns-else-number-len-clause-derived c =
    let kl = c.self.inside.classes in
    let le : length (classes_of kl) ≤ c.args.class = omega (arith, c.if-number-len.false, c.number.ensures, c.len.ensures, classes_length kl) in
    rw (← c.self.view_is) (λ e. kind_derived (classes_of kl) c.self.inside.positions c.self.invariant.numbers c.args.class c.position_of.result.now le (rw c.as_slice.ensures at c.position_of.ensures) e)

pub returns-else-number-len-clause-proxy : goal.returns-else-number-len-clause-proxy
returns-else-number-len-clause-proxy c =
    let kl = c.self.inside.classes in
    let le : length (classes_of kl) ≤ c.args.class = omega (arith, c.if-number-len.false, c.number.ensures, c.len.ensures, classes_length kl) in
    rw (← c.self.view_is) (λ e. kind_proxy (classes_of kl) c.self.inside.positions c.self.invariant.numbers c.args.class c.position_of.result.now le (rw c.as_slice.ensures at c.position_of.ensures) e)
