use Rattle.std.proofs.Common.{◌≡◌, ◌∙◌, List, ap, arith, length, map, slice_get, slice_index_or, subst, sym}
use Rattle.som_model.specs.declared.key.ClassKey.{ClassKey}
use Rattle.som_model.specs.declared.key.ClassKey.TheVariants as keys
use Rattle.som_meta.specs.Numbering.{Numbering, key_at}
use Rattle.som_class_kernel.specs.Linked.{Linkage}
use Rattle.som_classmgr.proofs.Reading.{low_numbered, mapped_at}
use Rattle.som_classmgr.proofs.queries.Kernel+Linked.key.Goals as goal

pub returns-in-Derived : goal.returns-in-Derived
returns-in-Derived c =
    let value = c.classes-classes.ensures.value ∙ ap (λ (z : Linkage). z.classes) c.self.view_is in
    let ps = c.parents.result.now in (
      subst (λ (k : Numbering). key_at k c.args.class ≡ keys.Derived (map (key_at k) ps)) value (c.kind.ensures.derived c.in-Derived.is ∙ ap (λ (z : List ClassKey). keys.Derived z) (sym c.parents.ensures.keys)),
      low_numbered ps c.args.class (length c.args.self.now.classes.keys) c.parents.ensures.lower c.requires,
    )

pub returns-in-Proxy : goal.returns-in-Proxy
returns-in-Proxy c =
    let value = c.classes-classes.ensures.value ∙ ap (λ (z : Linkage). z.classes) c.self.view_is in
    let k = c.classes-classes.result.now in
    let ps = c.parents-in-Proxy.result.now in
    let p = c.index-as_slice-0.result in
    let proxy = c.kind.ensures.proxy c.in-Proxy.is in
    let first = mapped_at (key_at k) ps 0 proxy.of (ap (λ (z : List ClassKey). slice_get z 0) (c.parents-in-Proxy.ensures.keys ∙ proxy.parents)) in
    let is : p ≡ slice_index_or ps 0 p = c.index-as_slice-0.is ∙ ap (λ (z : List _). slice_index_or z 0 p) c.as_slice.ensures in
    let key : key_at k p ≡ proxy.of = ap (key_at k) is ∙ (first.1 p).1 in
    let low = c.parents-in-Proxy.ensures.lower (slice_index_or ps 0 p) (first.1 p).0 in
    let num = c.requires in (
      subst (λ (z : Numbering). key_at z c.args.class ≡ keys.Proxy (key_at z p)) value (proxy.key ∙ ap (λ (z : ClassKey). keys.Proxy z) (sym key)),
      omega (arith, low, num, is),
    )
