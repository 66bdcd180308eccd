use Rattle.std.proofs.Common.{◌≡◌, ◌≤◌, ◌++◌, ◌∙◌, List, OnOk, ap, append-nil, arith, length, subst, sym}
use Rattle.som_model.specs.declared.key.ValueType.{ValueType}
use Rattle.som_class_ids.specs.Classes.{class_of}
use Rattle.som_class_variables.specs.Variables.{types_of}
use Rattle.som_class_variables.proofs.Having.{own_declared, own_made}
use Rattle.som_class_variables.proofs.own.note_own.Goals as goal

pub returns-then-number-declared_count : goal.returns-then-number-declared_count
returns-then-number-declared_count c =
    subst (λ (z : List ValueType). OnOk c.note_variables.result (c.note_variables.new.types ≡ c.args.types.now ++ z))
    (ap types_of c.as_slice.ensures ∙ own_declared c.args.classes.now c.know_loaded.ensures c.args.class (class_of c.declared.result.now) c.declared.ensures.class) c.note_variables.ensures

pub returns-else-number-declared_count : goal.returns-else-number-declared_count
returns-else-number-declared_count c =
    let le : length c.args.classes.now.classes ≤ c.args.class = omega (arith, c.if-number-declared_count.false, c.number.ensures, c.declared_count.ensures.count) in
    sym (append-nil c.args.types.now) ∙ ap (λ (z : List ValueType). c.args.types.now ++ z) (sym (own_made c.args.classes.now c.know_loaded.ensures c.args.class c.requires le))
