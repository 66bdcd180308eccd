use Rattle.std.proofs.Common.{◌<◌, ◌≤◌, ℕ, List, [], ◌∷◌, length, map, slice_index_or, Some, sym, ap, ◌∙◌, subst}
use Rattle.std.proofs.lemmas.List.{map-append}
use Rattle.som_model.specs.Rules.{breach}
use Rattle.som_model.specs.declared.class.Override.{Override}
use Rattle.som_verify_classes.specs.declared.methods.Method.{Method}
use Rattle.som_verify_classes.specs.Inherited.{may_override, method_of}
use Rattle.som_verify_classes.specs.Modules.{class_of, classes_of}
use Rattle.som_verify_classes.specs.Places.{key_at, with_kernel}
use Rattle.som_verify_rules.proofs.Overriding.{override_stops, overrides_end, overrides_go_on, owners_end, owners_grow}
use Rattle.som_verify_rules.proofs.overrides.overrides_follow.Goals as goal

pub returns-then-not-may_override-clause-tells : goal.returns-then-not-may_override-clause-tells
returns-then-not-may_override-clause-tells c =
    let cs = with_kernel (classes_of c.args.classes.now) in
    let k = key_at cs c.args.place in
    let o = c.item-item.result in
    let i = c.loop-item.item-index in
    let r = method_of c.owner_of-method.result in
    let lt = subst (λ (z : List Override). i < length z) c.as_slice-item-items.ensures c.loop-item-test.true in
    let is = c.item-item.is ∙ ap (λ (z : List Override). slice_index_or z i o) c.as_slice-item-items.ensures in
    let asks = c.may_override.ensures ∙ ap (λ (z : List Method). may_override cs k (map method_of z) r) c.deref.ensures.value in
    c.refusal.ensures _
    (override_stops cs k (class_of c.args.class.now) (map method_of c.loop-item.before.items) c.args.class.now.decl.now.overrides i _ c.loop-item.invariant.0 o lt is r c.owner_of-method.ensures c.may_override.result asks
    c.if-not-may_override.true
    ∙ ap (λ (n : List ℕ). Some (breach 10 (class_of c.args.class.now) n)) (sym c.as_slice.ensures))

pub loop-item-preserved : goal.loop-item-preserved
loop-item-preserved c =
    let cs = with_kernel (classes_of c.args.classes.now) in
    let k = key_at cs c.args.place in
    let o = c.item-item.result in
    let i = c.loop-item.item-index in
    let r = method_of c.owner_of-method.result in
    let lt = subst (λ (z : List Override). i < length z) c.as_slice-item-items.ensures c.loop-item-test.true in
    let is = c.item-item.is ∙ ap (λ (z : List Override). slice_index_or z i o) c.as_slice-item-items.ensures in
    let asks = c.may_override.ensures ∙ ap (λ (z : List Method). may_override cs k (map method_of z) r) c.deref.ensures.value in
    let grown = ap (map method_of) c.in_ok-push.ensures.items ∙ map-append method_of c.loop-item.before.items (c.owner_of-method.result ∷ []) in (
      overrides_go_on cs k (class_of c.args.class.now) (map method_of c.loop-item.before.items) c.args.class.now.decl.now.overrides i _ c.loop-item.invariant.0 o lt is r c.owner_of-method.ensures c.may_override.result asks
          (map method_of c.push.new.self.items) c.if-not-may_override.false grown,
      owners_grow cs c.args.class.now.decl.now.overrides i o r _ (map method_of c.loop-item.before.items) (map method_of c.push.new.self.items) lt is c.owner_of-method.ensures c.loop-item.invariant.1 grown,
    )

pub returns-clause-owners : goal.returns-clause-owners
returns-clause-owners c =
    owners_end (with_kernel (classes_of c.args.classes.now)) c.args.class.now.decl.now.overrides c.loop-item.item-index _ (map method_of c.loop-item.before.items)
    (subst (λ (z : List Override). length z ≤ c.loop-item.item-index) c.as_slice-item-items.ensures c.loop-item-test.false) c.loop-item.invariant.1

pub returns-clause-tells : goal.returns-clause-tells
returns-clause-tells c =
    let cs = with_kernel (classes_of c.args.classes.now) in
    overrides_end cs (key_at cs c.args.place) (class_of c.args.class.now) (map method_of c.loop-item.before.items) c.args.class.now.decl.now.overrides c.loop-item.item-index _ c.loop-item.invariant.0
    (subst (λ (z : List Override). length z ≤ c.loop-item.item-index) c.as_slice-item-items.ensures c.loop-item-test.false)
