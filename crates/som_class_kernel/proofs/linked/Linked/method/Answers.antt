use Rattle.std.proofs.Common.{◌∙◌, ap, arith, length, slice_get, subst, sym}
use Rattle.som_meta.specs.Numbering.{Numbering}
use Rattle.som_class_kernel.specs.Entries.{AreMethods}
use Rattle.som_class_kernel.specs.Linked.{Linkage}
use Rattle.som_class_kernel.proofs.Holding.{cell_within, kept, row_within}
use Rattle.som_class_kernel.proofs.linked.Linked.method.Goals as goal

pub bounds-as_slice-number : goal.bounds-as_slice-number
bounds-as_slice-number c =
    let methods = subst (λ (z : Linkage). AreMethods z.classes c.self.inside.methods) c.self.view_is c.self.invariant.methods in
    row_within c.args.self.now.classes c.classes-classes.ensures.loaded c.args.token c.requires c.self.inside.methods methods c.as_slice.result.now c.as_slice.ensures c.number.result (c.number.ensures ∙ c.class-class.ensures)

pub bounds-as_slice-place : goal.bounds-as_slice-place
bounds-as_slice-place c =
    let methods = subst (λ (z : Linkage). AreMethods z.classes c.self.inside.methods) c.self.view_is c.self.invariant.methods in
    cell_within c.args.self.now.classes c.classes-classes.ensures.loaded c.args.token c.requires c.self.inside.methods methods c.as_slice.result.now c.as_slice.ensures c.number.result (c.number.ensures ∙ c.class-class.ensures)
    c.index-as_slice-number.result c.index-as_slice-number.is c.as_slice-2.result.now c.as_slice-2.ensures c.place.result c.place.ensures

pub introduced_sig-requires-clause-declared : goal.introduced_sig-requires-clause-declared
introduced_sig-requires-clause-declared c =
    let methods = subst (λ (z : Linkage). AreMethods z.classes c.self.inside.methods) c.self.view_is c.self.invariant.methods in
    let r = kept c.args.self.now.classes c.classes-classes.ensures.loaded c.args.token c.requires c.self.inside.methods methods c.as_slice.result.now c.as_slice.ensures c.number.result (c.number.ensures ∙ c.class-class.ensures)
    c.index-as_slice-number.result c.index-as_slice-number.is c.as_slice-2.result.now c.as_slice-2.ensures c.place.result c.place.ensures c.index-as_slice-place.result c.index-as_slice-place.is in
    let lt = r.declared in
    let same = c.class-class.ensures in
    let long = ap (λ (z : Numbering). length z.classes) c.classes-classes.ensures.value in
    omega (arith, lt, same, long)

pub introduced_sig-requires-clause-entry : goal.introduced_sig-requires-clause-entry
introduced_sig-requires-clause-entry c = λ d at.
    let methods = subst (λ (z : Linkage). AreMethods z.classes c.self.inside.methods) c.self.view_is c.self.invariant.methods in
    let r = kept c.args.self.now.classes c.classes-classes.ensures.loaded c.args.token c.requires c.self.inside.methods methods c.as_slice.result.now c.as_slice.ensures c.number.result (c.number.ensures ∙ c.class-class.ensures)
    c.index-as_slice-number.result c.index-as_slice-number.is c.as_slice-2.result.now c.as_slice-2.ensures c.place.result c.place.ensures c.index-as_slice-place.result c.index-as_slice-place.is in
    r.some d (ap (λ (z : Numbering). slice_get z.classes c.args.token.0) (sym c.classes-classes.ensures.value) ∙ ap (λ i. slice_get c.classes-classes.result.now.classes i) (sym c.class-class.ensures) ∙ at)

pub returns-clause-method : goal.returns-clause-method
returns-clause-method c =
    let methods = subst (λ (z : Linkage). AreMethods z.classes c.self.inside.methods) c.self.view_is c.self.invariant.methods in
    let r = kept c.args.self.now.classes c.classes-classes.ensures.loaded c.args.token c.requires c.self.inside.methods methods c.as_slice.result.now c.as_slice.ensures c.number.result (c.number.ensures ∙ c.class-class.ensures)
    c.index-as_slice-number.result c.index-as_slice-number.is c.as_slice-2.result.now c.as_slice-2.ensures c.place.result c.place.ensures c.index-as_slice-place.result c.index-as_slice-place.is in
    r.method

pub returns-clause-sig : goal.returns-clause-sig
returns-clause-sig c =
    let methods = subst (λ (z : Linkage). AreMethods z.classes c.self.inside.methods) c.self.view_is c.self.invariant.methods in
    let r = kept c.args.self.now.classes c.classes-classes.ensures.loaded c.args.token c.requires c.self.inside.methods methods c.as_slice.result.now c.as_slice.ensures c.number.result (c.number.ensures ∙ c.class-class.ensures)
    c.index-as_slice-number.result c.index-as_slice-number.is c.as_slice-2.result.now c.as_slice-2.ensures c.place.result c.place.ensures c.index-as_slice-place.result c.index-as_slice-place.is in
    let at = ap (λ (z : Numbering). slice_get z.classes c.class-class.result) c.classes-classes.ensures.value ∙ ap (λ i. slice_get c.args.self.now.classes.classes i) c.class-class.ensures ∙ r.at in
    r.sig r.class c.introduced_sig.result.now r.at (c.introduced_sig.ensures r.class at)
