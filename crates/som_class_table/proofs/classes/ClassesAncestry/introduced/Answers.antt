use Rattle.std.proofs.Common.{◌≤◌, ◌∙◌, arith, length, sym}
use Rattle.som_class_table.proofs.Bodies.{made_tokens}
use Rattle.som_class_table.proofs.classes.ClassesAncestry.introduced.Goals as goal

pub returns-else-number-declared_count : goal.returns-else-number-declared_count
returns-else-number-declared_count c = rw (← c.self.view_is)
    (let k = c.self.inside.numbers in
    let le : length k.classes ≤ c.args.class = omega (arith, c.if-number-declared_count.false, c.number.ensures, c.declared_count.ensures.count) in
    c.self.invariant.nothing ∙ sym (made_tokens k c.self.invariant.loaded c.args.class (rw (← c.self.view_is) at c.requires) le))
