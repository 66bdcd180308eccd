use Rattle.std.proofs.Common.{◌∙◌, List, ap, arith}
use Rattle.som_model.specs.declared.class.Variable.{Variable}
use Rattle.som_semantics.specs.State.{zero_of}
use Rattle.som_class_ids.specs.Classes.{class_of}
use Rattle.som_classmgr.specs.Asking.{kind_at}
use Rattle.som_classmgr.proofs.Asking.{kind_declared, kind_made}
use Rattle.som_classmgr.proofs.asked.zero_in.Goals as goal

pub returns-then-number-declared_count : goal.returns-then-number-declared_count
returns-then-number-declared_count c =
    c.zero_at.ensures ∙ ap (λ (z : List Variable). zero_of (kind_at z c.from.result)) c.as_slice-variables.ensures ∙ ap (λ i. zero_of (kind_at c.declared.result.now.decl.variables i)) c.from.ensures
    ∙ ap zero_of (kind_declared c.args.classes.now c.count-count.ensures.loaded c.args.class (class_of c.declared.result.now) c.declared.ensures.class c.args.variable)

pub returns-else-number-declared_count : goal.returns-else-number-declared_count
returns-else-number-declared_count c =
    let count = c.declared_count.ensures.count in
    let number = c.number.ensures in
    let le = c.if-number-declared_count.false in
    kind_made c.args.classes.now c.count-count.ensures.loaded c.args.class c.requires (omega (arith, count, number, le)) c.args.variable
