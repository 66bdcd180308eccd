use Rattle.std.proofs.Common.{◌≤◌, ◌∙◌, arith, length}
use Rattle.som_class_ids.specs.Classes.{class_of}
use Rattle.som_class_variables.proofs.Having.{count_declared, count_made, few_variables}
use Rattle.som_class_variables.proofs.own.own_count.Goals as goal

pub overflow_cast-result : goal.overflow_cast-result
overflow_cast-result c = (let few = few_variables c.args.classes.now c.know_loaded.ensures c.args.class (class_of c.declared.result.now) c.declared.ensures.class in omega (arith, few, c.len.ensures))

pub returns-then-number-declared_count : goal.returns-then-number-declared_count
returns-then-number-declared_count c = c.len.ensures ∙ count_declared c.args.classes.now c.know_loaded.ensures c.args.class (class_of c.declared.result.now) c.declared.ensures.class

pub returns-else-number-declared_count : goal.returns-else-number-declared_count
returns-else-number-declared_count c =
    let le : length c.args.classes.now.classes ≤ c.args.class = omega (arith, c.if-number-declared_count.false, c.number.ensures, c.declared_count.ensures.count) in
    count_made c.args.classes.now c.know_loaded.ensures c.args.class c.requires le
