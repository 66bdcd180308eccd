use Rattle.std.proofs.Common.{sym, ◌∙◌, subst, List, ℕ, Option}
use Rattle.som_model.specs.declared.key.ClassKey.{ClassKey}
use Rattle.som_verify_classes.specs.Modules.{class_of, classes_of}
use Rattle.som_verify_classes.specs.Places.{with_kernel}
use Rattle.som_verify_classes.specs.Standing.{RowStands}
use Rattle.som_verify_classes.proofs.Rows.{no_parent, no_meta, stands}
use Rattle.som_verify_parents.proofs.parents.standing_row.Goals as goal

pub returns-then-not-metaclass_stands : goal.returns-then-not-metaclass_stands
returns-then-not-metaclass_stands c =
    c.refusal.ensures _ (no_meta (with_kernel (classes_of c.args.classes.now)) c.args.place (class_of c.args.class.now) (sym c.metaclass_stands.ensures ∙ c.if-not-metaclass_stands.true))

pub returns-in-Some : goal.returns-in-Some
returns-in-Some c =
    let cs = with_kernel (classes_of c.args.classes.now) in
    let d = class_of c.args.class.now in
    let row = subst (λ (ks : List ClassKey). RowStands cs c.args.place ks c.in_ok-row.field-0) c.as_slice.ensures c.in_ok-row.ensures in
    let some = subst (λ (o : Option (List ℕ)). RowStands cs c.args.place d.decl.face.parents o) c.in-Some.is row in
    (stands cs c.args.place d some.0 (sym c.metaclass_stands.ensures ∙ c.if-not-metaclass_stands.false), some.1, some.2)

pub returns-in-None : goal.returns-in-None
returns-in-None c =
    let cs = with_kernel (classes_of c.args.classes.now) in
    let d = class_of c.args.class.now in
    let row = subst (λ (ks : List ClassKey). RowStands cs c.args.place ks c.in_ok-row.field-0) c.as_slice.ensures c.in_ok-row.ensures in
    let none = subst (λ (o : Option (List ℕ)). RowStands cs c.args.place d.decl.face.parents o) c.in-None.is row in
    c.refusal-in-None.ensures _ (no_parent cs c.args.place d none)
