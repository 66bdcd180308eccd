use Rattle.std.proofs.Common.{◌≡◌, ◌∙◌, List, Some, IsSome, Option, ap, slice_get, slice_index_or, subst, sym, true≢false}
use Rattle.std.proofs.lemmas.Option.{same_Some}
use Rattle.som_model.specs.declared.class.Entry.{Entry}
use Rattle.som_model.specs.declared.class.Entry.TheVariants as entries
use Rattle.som_model.specs.Class.{Class, introduced_sig}
use Rattle.som_class_ids.specs.Classes.{class_of}
use Rattle.som_class_kernel.proofs.Holding.{entry_got, sig_within}
use Rattle.som_class_kernel.proofs.methods.introduced_sig.Goals as goal

pub bounds-as_slice-from : goal.bounds-as_slice-from
bounds-as_slice-from c = rw (c.as_slice.ensures, c.from.ensures) (sig_within c.declared.result.now.decl.face.entries c.args.place (c.requires.entry (class_of c.declared.result.now) c.declared.ensures.class))

pub unreachable-requires : goal.unreachable-requires
unreachable-requires c =
    let es = c.declared.result.now.decl.face.entries in
    let e = c.index-as_slice-from.result in
    let h = c.requires.entry (class_of c.declared.result.now) c.declared.ensures.class in
    let is = c.index-as_slice-from.is ∙ ap (λ (z : List Entry). slice_index_or z c.from.result e) c.as_slice.ensures ∙ ap (λ i. slice_index_or es i e) c.from.ensures in
    let at : slice_get es c.args.place ≡ Some (entries.Moved c.in-Moved.name c.in-Moved.to) = entry_got es c.args.place e h is ∙ ap (λ (z : Entry). Some z) c.in-Moved.is in
    true≢false (sym (subst (λ (o : Option Entry). IsSome (introduced_sig o)) at h))

pub returns : goal.returns
returns c = λ d at.
    let es = c.declared.result.now.decl.face.entries in
    let e = c.index-as_slice-from.result in
    let h = c.requires.entry (class_of c.declared.result.now) c.declared.ensures.class in
    let is = c.index-as_slice-from.is ∙ ap (λ (z : List Entry). slice_index_or z c.from.result e) c.as_slice.ensures ∙ ap (λ i. slice_index_or es i e) c.from.ensures in
    let there : slice_get es c.args.place ≡ Some (entries.Introduced c.in-Introduced.name c.in-Introduced.sig c.in-Introduced.way) = entry_got es c.args.place e h is ∙ ap (λ (z : Entry). Some z) c.in-Introduced.is in
    subst (λ (z : Class). introduced_sig (slice_get z.decl.face.entries c.args.place) ≡ Some c.in-Introduced.sig) (same_Some (class_of c.declared.result.now) d (sym c.declared.ensures.class ∙ at)) (ap introduced_sig there)
