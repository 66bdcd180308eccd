use Rattle.std.proofs.Common.{◌≤◌, ◌++◌, ◌∙◌, List, OnOk, ap, append-nil, arith, length, subst, sym}
use Rattle.som_model.specs.declared.key.ValueType.{ValueType}
use Rattle.som_class_ids.specs.Classes.{class_of}
use Rattle.som_class_variables.specs.Variables.{types_of}
use Rattle.som_class_variables.proofs.Having.{own_declared, own_made}
use Rattle.som_values.specs.Zeros.{AreZeros}
use Rattle.som_classmgr.proofs.zeros.add_own.Goals as goal

pub returns-then-number-declared_count : goal.returns-then-number-declared_count
returns-then-number-declared_count c = λ types zeros.
    subst (λ (z : List ValueType). OnOk c.add_zeros.result (AreZeros (types ++ z) c.add_zeros.new.cells))
    (ap types_of c.as_slice-variables.ensures ∙ own_declared c.args.classes.now c.count-count.ensures.loaded c.args.class (class_of c.declared.result.now) c.declared.ensures.class) (c.add_zeros.ensures types zeros)

pub returns-else-number-declared_count : goal.returns-else-number-declared_count
returns-else-number-declared_count c = λ types zeros.
    let number = c.number.ensures in
    let count = c.declared_count.ensures.count in
    let last = c.if-number-declared_count.false in
    let le : length c.args.classes.now.classes ≤ c.args.class = omega (arith, last, number, count) in
    subst (λ (z : List ValueType). AreZeros (types ++ z) c.args.cells.now) (sym (own_made c.args.classes.now c.count-count.ensures.loaded c.args.class c.requires le))
    (subst (λ (z : List ValueType). AreZeros z c.args.cells.now) (sym (append-nil types)) zeros)
