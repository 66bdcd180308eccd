use Rattle.std.proofs.Common.{List, sym, ap, ◌∙◌, true≢false, subst, slice_get, Some}
use Rattle.std.proofs.lemmas.Option.{slice_get-get_or, slice_get_past}
use Rattle.som_model.specs.Lists.{Mem}
use Rattle.som_model.specs.declared.key.ClassKey.{ClassKey}
use Rattle.som_model.specs.declared.class.ClassDecl.{ClassDecl}
use Rattle.som_verify_forms.specs.Knowing.{all_of}
use Rattle.som_verify_forms.proofs.CallLaws.{parents_there}
use Rattle.som_verify_forms.proofs.Facts.{known_said}
use Rattle.som_verify_forms.proofs.KindLaws.{index_mem}
use Rattle.som_verify_forms.proofs.calls.parent_of.Goals as goal

pub unreachable-requires : goal.unreachable-requires
unreachable-requires c =
    let all = all_of c.args.known.now in
    let k = c.index-parents-number.result in
    let place = rw c.in_ok-class.was at c.requires.place.class in
    let m : Mem k c.as_slice-parents.result.now = subst (λ z. Mem z c.as_slice-parents.result.now) (sym c.index-parents-number.is) (index_mem c.as_slice-parents.result.now c.args.number k c.if-number-parents.true) in
    let n = subst (λ (ks : List ClassKey). Mem k ks) (c.as_slice-parents.ensures ∙ ap (λ (d : ClassDecl). d.face.parents) c.decl_at.ensures) m in
    true≢false (sym (c.requires.known.names.parents c.in_ok-class.class k place.1 n) ∙ sym (known_said all k) ∙ sym c.in-None.ensures.known)

pub returns-in-Some-clause-is : goal.returns-in-Some-clause-is
returns-in-Some-clause-is c =
    let k = c.index-parents-number.result in
    let xs = c.as_slice-parents.result.now in
    sym (
    parents_there (all_of c.args.known.now) c.args.at.now c.in_ok-class.class c.args.number c.decl_at.result.now c.in_ok-class.was c.decl_at.ensures
    ∙ ap (λ ks. slice_get ks c.args.number) (sym c.as_slice-parents.ensures)
    ∙ slice_get-get_or xs c.args.number k c.if-number-parents.true
    ∙ ap (λ z. Some z) (sym c.index-parents-number.is ∙ sym c.in-Some.ensures.finds.2)
    )

pub returns-else-number-parents-clause-is : goal.returns-else-number-parents-clause-is
returns-else-number-parents-clause-is c =
    sym (
    parents_there (all_of c.args.known.now) c.args.at.now c.in_ok-class.class c.args.number c.decl_at.result.now c.in_ok-class.was c.decl_at.ensures
    ∙ ap (λ ks. slice_get ks c.args.number) (sym c.as_slice-parents.ensures)
    ∙ slice_get_past c.as_slice-parents.result.now c.args.number c.if-number-parents.false
    )
