use Rattle.std.proofs.Common.{◌<◌, ◌≤◌, ℕ, List, [], ◌∷◌, length, map, slice_get, slice_index_or, Some, sym, ap, ◌∙◌, subst}
use Rattle.std.proofs.lemmas.List.{map-append}
use Rattle.som_model.specs.Rules.{breach}
use Rattle.som_model.specs.declared.key.ClassKey.{ClassKey}
use Rattle.som_model.specs.declared.class.Select.{Select}
use Rattle.som_verify_classes.specs.declared.methods.Method.{Method}
use Rattle.som_verify_classes.specs.Inherited.{may_select, method_of}
use Rattle.som_verify_classes.specs.Modules.{class_of, classes_of}
use Rattle.som_verify_classes.specs.Places.{key_at, with_kernel}
use Rattle.som_verify_rules.proofs.Selecting.{select_stops, selects_end, selects_go_on}
use Rattle.som_verify_rules.proofs.selects.selects_follow.Goals as goal

pub returns-then-not-may_select : goal.returns-then-not-may_select
returns-then-not-may_select c =
    let cs = with_kernel (classes_of c.args.classes.now) in
    let k = key_at cs c.args.place in
    let s = c.item-item.result in
    let i = c.loop-item.item-index in
    let r = method_of c.owner_of-method.result in
    let lt = subst (λ (z : List Select). i < length z) c.as_slice-item-items.ensures c.loop-item-test.true in
    let is = c.item-item.is ∙ ap (λ (z : List Select). slice_index_or z i s) c.as_slice-item-items.ensures in
    let asks = c.may_select.ensures
    ∙ ap (λ (z : List Method). may_select cs k (map method_of z) r (slice_get c.as_slice-parents.result.now c.from-parent.result)) c.deref.ensures.value
    ∙ ap (λ n. may_select cs k (map method_of c.loop-item.before.items) r (slice_get c.as_slice-parents.result.now n)) c.from-parent.ensures
    ∙ ap (λ (ks : List ClassKey). may_select cs k (map method_of c.loop-item.before.items) r (slice_get ks s.parent)) c.as_slice-parents.ensures in
    c.refusal.ensures _
    (select_stops cs k (class_of c.args.class.now) (map method_of c.loop-item.before.items) c.args.class.now.decl.now.selects i _ c.loop-item.invariant s lt is r c.owner_of-method.ensures c.may_select.result asks
    c.if-not-may_select.true
    ∙ ap (λ (n : List ℕ). Some (breach 10 (class_of c.args.class.now) n)) (sym c.as_slice.ensures))

pub loop-item-preserved : goal.loop-item-preserved
loop-item-preserved c =
    let cs = with_kernel (classes_of c.args.classes.now) in
    let k = key_at cs c.args.place in
    let s = c.item-item.result in
    let i = c.loop-item.item-index in
    let r = method_of c.owner_of-method.result in
    let lt = subst (λ (z : List Select). i < length z) c.as_slice-item-items.ensures c.loop-item-test.true in
    let is = c.item-item.is ∙ ap (λ (z : List Select). slice_index_or z i s) c.as_slice-item-items.ensures in
    let asks = c.may_select.ensures
    ∙ ap (λ (z : List Method). may_select cs k (map method_of z) r (slice_get c.as_slice-parents.result.now c.from-parent.result)) c.deref.ensures.value
    ∙ ap (λ n. may_select cs k (map method_of c.loop-item.before.items) r (slice_get c.as_slice-parents.result.now n)) c.from-parent.ensures
    ∙ ap (λ (ks : List ClassKey). may_select cs k (map method_of c.loop-item.before.items) r (slice_get ks s.parent)) c.as_slice-parents.ensures in
    let grown = ap (map method_of) c.in_ok-push.ensures.items ∙ map-append method_of c.loop-item.before.items (c.owner_of-method.result ∷ []) in
    selects_go_on cs k (class_of c.args.class.now) (map method_of c.loop-item.before.items) c.args.class.now.decl.now.selects i _ c.loop-item.invariant s lt is r c.owner_of-method.ensures c.may_select.result asks
    (map method_of c.push.new.self.items) c.if-not-may_select.false grown

pub returns : goal.returns
returns c =
    let cs = with_kernel (classes_of c.args.classes.now) in
    selects_end cs (key_at cs c.args.place) (class_of c.args.class.now) (map method_of c.loop-item.before.items) c.args.class.now.decl.now.selects c.loop-item.item-index _ c.loop-item.invariant
    (subst (λ (z : List Select). length z ≤ c.loop-item.item-index) c.as_slice-item-items.ensures c.loop-item-test.false)
