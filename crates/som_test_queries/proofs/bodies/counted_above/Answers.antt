use Rattle.std.proofs.Common.{◌≡◌, ◌<◌, ℕ, true, length, Option, IsSome, refl, arith, subst, sym}
use Rattle.som_model.specs.Classes.{is_a}
use Rattle.som_meta.specs.Numbering.{key_at}
use Rattle.som_classmgr.specs.Parents.{HasMethodAbove}
use Rattle.som_test_queries.proofs.Known.{has_above}
use Rattle.som_test_queries.proofs.bodies.counted_above.Goals as goal

pub parent_resolve-body-requires-clause-parent : goal.parent_resolve-body-requires-clause-parent
parent_resolve-body-requires-clause-parent g c =
    let k = c.args.kernel.now.classes in
    let p = c.index-parents-from.result in
    let lt = c.if-from-parents.true in
    let one = c.from.ensures in
    let two = c.from-then-from-parents.ensures in
    let within : c.from-then-from-parents.result < length c.as_slice-parents.result.now = omega (arith, lt, one, two) in
    let below : is_a k.classes (key_at k p) (key_at k c.in_ok-method.method.0) ≡ true = subst (λ (n : ℕ). is_a k.classes (key_at k p) (key_at k n) ≡ true) c.class.ensures (sym c.if-is_a.ensures) in
    has_above k c.know.ensures.loaded c.args.class c.args.parent c.parents.result.now c.parents.ensures.keys c.as_slice-parents.result.now c.as_slice-parents.ensures
    c.from-then-from-parents.result two within p c.index-parents-from.is c.in_ok-method.method below

pub body-view-requires : goal.body-view-requires
body-view-requires g c =
    let k = c.args.kernel.now.classes in
    let p = c.index-parents-from.result in
    let lt = c.if-from-parents.true in
    let one = c.from.ensures in
    let two = c.from-then-from-parents.ensures in
    let within : c.from-then-from-parents.result < length c.as_slice-parents.result.now = omega (arith, lt, one, two) in
    let below : is_a k.classes (key_at k p) (key_at k c.in_ok-method.method.0) ≡ true = subst (λ (n : ℕ). is_a k.classes (key_at k p) (key_at k n) ≡ true) c.class.ensures (sym c.if-is_a.ensures) in
    let has : HasMethodAbove k c.args.class c.args.parent c.in_ok-method.method = has_above k c.know.ensures.loaded c.args.class c.args.parent c.parents.result.now c.parents.ensures.keys c.as_slice-parents.result.now c.as_slice-parents.ensures
    c.from-then-from-parents.result two within p c.index-parents-from.is c.in_ok-method.method below in
    let a = c.parent_resolve-body.ensures.body has.parent has.there in
    subst (λ (z : Option (ℕ × (ℕ × ℕ))). IsSome z) (sym a.body) refl
