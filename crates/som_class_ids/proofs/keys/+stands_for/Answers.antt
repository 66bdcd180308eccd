use Rattle.std.proofs.Common.{◌≡◌, arith, ◌∙◌, ◌∷◌, [], ap, length, map, subst, sym, List, inl, refl, true≢false}
use Rattle.som_model.specs.Lists.{Mem}
use Rattle.som_model.specs.declared.key.ClassKey.TheVariants as keys
use Rattle.som_meta.specs.Numbering.{key_at}
use Rattle.som_class_ids.proofs.Items.{item_mem}
use Rattle.som_class_ids.proofs.Standing.{derived_stands, key_stands, named_stands, one_target, stand_more, stand_not}
use Rattle.som_class_ids.proofs.keys.+stands_for.Goals as goal

pub stands_for-returns-in-Declared : goal.stands_for-returns-in-Declared
stands_for-returns-in-Declared t c = λ lt. named_stands _ c.declared.result.now.key c.args.key.now c.is.result c.declared.ensures.key c.is.ensures

pub stands_for-returns-in-Derived : goal.stands_for-returns-in-Derived
stands_for-returns-in-Derived t c = λ lt.
    let k = c.args.numbers.now in
    key_stands (key_at k c.args.class) (keys.Derived (map (key_at k) c.as_slice.result.now)) c.args.key.now c.is_derived.result
    (c.kind.ensures.derived c.in-Derived.is ∙ ap keys.Derived (sym (ap (map (key_at k)) c.as_slice.ensures ∙ c.parents.ensures.keys)))
    (c.is_derived.ensures (λ n m. (let low = c.parents.ensures.lower n (rw c.as_slice.ensures at m) in omega (arith, low, lt))))

pub stands_for-returns-in-Proxy : goal.stands_for-returns-in-Proxy
stands_for-returns-in-Proxy t c = λ lt.
    let k = c.args.numbers.now in
    let proxy = c.kind.ensures.proxy c.in-Proxy.is in
    let one = one_target k c.parents-in-Proxy.result.now proxy.of (c.parents-in-Proxy.ensures.keys ∙ proxy.parents) in
    let low = c.parents-in-Proxy.ensures.lower one.0 (subst (λ (l : List _). Mem one.0 l) (sym one.1) (inl refl)) in
    let same : key_at k one.0 ≡ proxy.of = (let e : map (key_at k) (one.0 ∷ []) ≡ proxy.of ∷ [] = ap (map (key_at k)) (sym one.1) ∙ c.parents-in-Proxy.ensures.keys ∙ proxy.parents in cc) in
    key_stands (key_at k c.args.class) (keys.Proxy (key_at k one.0)) c.args.key.now c.is_proxy.result (proxy.key ∙ ap keys.Proxy (sym same))
    (c.is_proxy.ensures one.0 (c.as_slice-in-Proxy.ensures ∙ one.1) (omega (arith, low, lt)))

pub is_derived-returns-in-Derived : goal.is_derived-returns-in-Derived
is_derived-returns-in-Derived t c = λ all. derived_stands (map (key_at c.args.numbers.now) c.args.classes.now) c.in-Derived.parents c.args.key.now c.stand_for.result c.in-Derived.is (c.stand_for.ensures all)

pub stand_for-returns-then-not-stands_for : goal.stand_for-returns-then-not-stands_for
stand_for-returns-then-not-stands_for t c = λ all.
    let k = c.args.numbers.now in
    let lt = rw c.as_slice-key-items.ensures at c.loop-i-test.true in
    let is = rw c.as_slice-key-items.ensures at c.key-item.is in
    let num = all c.index-classes-i.result (item_mem c.args.classes.now c.loop-i.i c.index-classes-i.result (omega (arith, lt, c.if-len-classes.false, c.len.ensures)) c.index-classes-i.is) in (
      (λ f. absurd (true≢false (sym f))),
      (λ e. absurd (stand_not k c.args.classes.now c.args.keys.now c.loop-i.i c.index-classes-i.result c.key-item.result lt c.index-classes-i.is is (λ s. true≢false (sym ((c.stands_for.ensures num).1 s) ∙ c.if-not-stands_for.true)) e)),
    )

pub stand_for-loop-i-preserved : goal.stand_for-loop-i-preserved
stand_for-loop-i-preserved t c = λ all.
    let k = c.args.numbers.now in
    let lt = rw c.as_slice-key-items.ensures at c.loop-i-test.true in
    let is = rw c.as_slice-key-items.ensures at c.key-item.is in
    let long : length c.args.keys.now ≡ length c.args.classes.now = omega (arith, c.if-len-classes.false, c.len.ensures) in
    let num = all c.index-classes-i.result (item_mem c.args.classes.now c.loop-i.i c.index-classes-i.result (omega (arith, lt, long)) c.index-classes-i.is) in
    stand_more k c.args.classes.now c.args.keys.now c.loop-i.i c.index-classes-i.result c.key-item.result lt long c.index-classes-i.is is ((c.stands_for.ensures num).0 c.if-not-stands_for.false) (c.loop-i.invariant all)
