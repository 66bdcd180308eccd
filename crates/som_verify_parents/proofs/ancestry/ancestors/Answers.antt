use Rattle.std.proofs.Common.{◌≡◌, arith, ap, length, subst, sym}
use Rattle.som_model_laws.specs.Rows.{AreAncestors}
use Rattle.som_model_laws.proofs.Listed.{known_low, next_of}
use Rattle.som_verify_parents.proofs.FirstParent.{known_once}
use Rattle.som_verify_parents.proofs.ancestry.ancestors.Goals as goal

pub ancestors_of-requires-clause-row : goal.ancestors_of-requires-clause-row
ancestors_of-requires-clause-row c = λ p m.
    let h = c.requires c.loop-place.place p (rw c.item.ensures at m) in
    omega (arith, h, c.loop-place.invariant.long, ap length c.deref.ensures.value)

pub ancestors_of-requires-clause-low : goal.ancestors_of-requires-clause-low
ancestors_of-requires-clause-low c = λ p a m. known_low c.args.rows.now c.loop-place.place c.loop-place.all.items c.requires c.loop-place.invariant p a (rw c.deref.ensures.value at m)

pub ancestors_of-requires-clause-known : goal.ancestors_of-requires-clause-known
ancestors_of-requires-clause-known c =
    let e : length c.loop-place.all.items ≡ c.loop-place.place = c.loop-place.invariant.long in
    rw c.deref.ensures.value (subst (λ n. AreAncestors c.args.rows.now n c.loop-place.all.items) (sym e) c.loop-place.invariant)

pub ancestors_of-requires-clause-within : goal.ancestors_of-requires-clause-within
ancestors_of-requires-clause-within c = omega (arith, c.loop-place-test.true, c.loop-place.invariant.long, ap length c.deref.ensures.value)

pub loop-place-preserved : goal.loop-place-preserved
loop-place-preserved c = rw c.in_ok-push.ensures.items (next_of c.args.rows.now c.loop-place.place c.loop-place.all.items _ c.item.result.now c.in_ok-list.list c.requires c.loop-place.invariant c.item.ensures c.deref.ensures.value c.in_ok-list.ensures)

pub ancestors_of-requires-clause-once : goal.ancestors_of-requires-clause-once
ancestors_of-requires-clause-once c = rw c.deref.ensures.value (known_once c.args.rows.now c.loop-place.place c.loop-place.all.items c.requires c.loop-place.invariant)
