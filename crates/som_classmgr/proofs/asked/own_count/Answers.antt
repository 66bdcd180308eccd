use Rattle.std.proofs.Common.{◌∙◌, arith}
use Rattle.som_class_ids.specs.Classes.{class_of}
use Rattle.som_class_variables.proofs.Having.{count_declared, count_made}
use Rattle.som_classmgr.proofs.asked.own_count.Goals as goal

pub returns-then-number-declared_count : goal.returns-then-number-declared_count
returns-then-number-declared_count c = c.len.ensures ∙ count_declared c.args.classes.now c.count-count.ensures.loaded c.args.class (class_of c.declared.result.now) c.declared.ensures.class

pub returns-else-number-declared_count : goal.returns-else-number-declared_count
returns-else-number-declared_count c =
    let count = c.declared_count.ensures.count in
    let number = c.number.ensures in
    let le = c.if-number-declared_count.false in
    count_made c.args.classes.now c.count-count.ensures.loaded c.args.class c.requires (omega (arith, count, number, le))
