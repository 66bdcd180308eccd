use Rattle.std.proofs.Common.{◌<◌, List, length, slice_index_or, map, sym, ap, ◌∙◌, subst, arith}
use Rattle.std.proofs.lemmas.Result.{err_from_is_err_and}
use Rattle.som_ast.specs.declared.expression.ExprText.{ExprText}
use Rattle.som_elab_body.specs.Expressions.{binary_form, host_form, parent_form, part, parts, unary_form}
use Rattle.som_elab_body.specs.Code.{Makes, among_at, classes_at, typed_at, names_at, place_at}
use Rattle.som_elab_body.specs.Forms.{elab_at, of_all, parts_at}
use Rattle.som_elab_body.proofs.ElabLaws.{call_goes_on, dispatch_goes_on, literal_elab, lookup_goes_on, makes_as, parent_elab, parents_elab}
use Rattle.som_elab_body.proofs.GroupLaws.{is_some_class_operation, is_some_inherited_call, is_some_method_call, is_some_operation}
use Rattle.som_elab_body.proofs.PartLaws.{one_goes_on, part_goes_on, parts_fail, parts_go_on, parts_start}
use Rattle.som_elab_body.proofs.expressions.+texts.Goals as goal

pub expression-returns-in-Literal : goal.expression-returns-in-Literal
expression-returns-in-Literal t c =
    let s = c.args.context.now in
    let ls = c.args.locals.now in
    let e = c.in-Literal in
    makes_as (classes_at s) (elab_at s ls) _ _ _ c.literal.result e.is
    (literal_elab (among_at s) (place_at s) (names_at (classes_at s) ls) e.value) (c.literal.ensures (classes_at s))

pub inherited_call-returns-in-Parent : goal.inherited_call-returns-in-Parent
inherited_call-returns-in-Parent t c =
    let s = c.args.context.now in
    let ls = c.args.locals.now in
    let e = c.in-Parent in
    makes_as (classes_at s) (elab_at s ls) _ _ _ c.parent_text.result e.is
    (parent_elab (among_at s) (place_at s) (names_at (classes_at s) ls) e.parent e.method e.args)
    (subst (λ z. Makes (classes_at s) (of_all (map (elab_at s ls) e.args) (parent_form (among_at s) (place_at s) z e.method.text)) c.parent_text.result) c.as_slice.ensures c.parent_text.ensures)

pub inherited_call-returns-in-Parents : goal.inherited_call-returns-in-Parents
inherited_call-returns-in-Parents t c =
    let s = c.args.context.now in
    let ls = c.args.locals.now in
    let e = c.in-Parents in
    makes_as (classes_at s) (elab_at s ls) _ _ _ c.parents_text.result e.is
    (parents_elab (among_at s) (place_at s) (names_at (classes_at s) ls) e.method e.args) c.parents_text.ensures

pub method_call-returns-in_ok-receiver-in-Call : goal.method_call-returns-in_ok-receiver-in-Call
method_call-returns-in_ok-receiver-in-Call t c =
    let s = c.args.context.now in
    let ls = c.args.locals.now in
    let e = c.in-Call in
    let on = c.in_ok-receiver-in-Call in
    makes_as (classes_at s) (elab_at s ls) _ _ _ c.call_text.result e.is
    (call_goes_on (among_at s) (place_at s) (names_at (classes_at s) ls) e.receiver e.method e.args (typed_at (classes_at s) on.receiver)
    (ap (λ z. part (elab_at s ls z)) (sym c.get.ensures) ∙ on.ensures.0)) c.call_text.ensures

pub method_call-returns-in_ok-on-in-Lookup : goal.method_call-returns-in_ok-on-in-Lookup
method_call-returns-in_ok-on-in-Lookup t c =
    let s = c.args.context.now in
    let ls = c.args.locals.now in
    let e = c.in-Lookup in
    let on = c.in_ok-on-in-Lookup in
    makes_as (classes_at s) (elab_at s ls) _ _ _ c.lookup_text.result e.is
    (lookup_goes_on (among_at s) (place_at s) (names_at (classes_at s) ls) e.answer e.receiver e.method e.args (typed_at (classes_at s) on.on)
    (ap (λ z. part (elab_at s ls z)) (sym c.get-in-Lookup.ensures) ∙ on.ensures.0)) c.lookup_text.ensures

pub method_call-returns-in_ok-on-in-Dispatch : goal.method_call-returns-in_ok-on-in-Dispatch
method_call-returns-in_ok-on-in-Dispatch t c =
    let s = c.args.context.now in
    let ls = c.args.locals.now in
    let e = c.in-Dispatch in
    let on = c.in_ok-on-in-Dispatch in
    makes_as (classes_at s) (elab_at s ls) _ _ _ c.dispatch_text.result e.is
    (dispatch_goes_on (among_at s) (place_at s) (names_at (classes_at s) ls) e.answer e.receiver e.method e.args (typed_at (classes_at s) on.on)
    (ap (λ z. part (elab_at s ls z)) (sym c.get-in-Dispatch.ensures) ∙ on.ensures.0)) c.dispatch_text.ensures

pub parts_of_texts-loop-text-preserved : goal.parts_of_texts-loop-text-preserved
parts_of_texts-loop-text-preserved t c =
    let s = c.args.context.now in
    let ls = c.args.locals.now in
    let es = c.args.texts.now in
    let i = c.loop-text.text-index in
    let e = c.text-item.result in
    let one = c.in_ok-one in
    let cs = classes_at s in
    let lt = subst (λ (z : List ExprText). i < length z) c.as_slice-text-items.ensures c.loop-text-test.true in
    let is = c.text-item.is ∙ ap (λ (z : List ExprText). slice_index_or z i e) c.as_slice-text-items.ensures in
    let added = c.in_ok-add.ensures cs c.loop-text.invariant.are one.ensures.1 in
    record {
      made = parts_go_on cs (elab_at s ls) es (parts_at cs c.loop-text.made) i c.loop-text.invariant.made _ e (typed_at cs one.one) (parts_at cs c.add.new.parts) (omega arith) lt is one.ensures.0 added.parts;
      are = added.are;
    }

pub parts_of_texts-loop-text-init : goal.parts_of_texts-loop-text-init
parts_of_texts-loop-text-init t c =
    let s = c.args.context.now in
    let cs = classes_at s in
    record {
      made = parts_start (parts_at cs c.no_parts-made.result) (parts (map (elab_at s c.args.locals.now) c.args.texts.now)) (c.no_parts-made.ensures.parts cs);
      are = c.no_parts-made.ensures.are cs;
    }

pub parts_of_texts-returns-in_err-one-clause-fault : goal.parts_of_texts-returns-in_err-one-clause-fault
parts_of_texts-returns-in_err-one-clause-fault t c =
    let s = c.args.context.now in
    let ls = c.args.locals.now in
    let es = c.args.texts.now in
    let i = c.loop-text.text-index in
    let e = c.text-item.result in
    let lt = subst (λ (z : List ExprText). i < length z) c.as_slice-text-items.ensures c.loop-text-test.true in
    let is = c.text-item.is ∙ ap (λ (z : List ExprText). slice_index_or z i e) c.as_slice-text-items.ensures in
    let p = err_from_is_err_and c.from_residual.result c.from_residual.ensures.1 in
    rw (p.1, p.2) (parts_fail (classes_at s) (elab_at s ls) es (parts_at (classes_at s) c.loop-text.made) i c.loop-text.invariant.made e c.in_err-one.field-0.0 lt is c.in_err-one.ensures)

pub value_expression-returns : goal.value_expression-returns
value_expression-returns t c =
    let s = c.args.context.now in
    let cs = classes_at s in
    let made = c.in_ok-made in
    part_goes_on cs (elab_at s c.args.locals.now c.args.text.now) (typed_at cs made.made) c.valued.result made.ensures.0 (c.valued.ensures cs made.ensures.1)

pub unary_text-returns : goal.unary_text-returns
unary_text-returns t c =
    let s = c.args.context.now in
    let cs = classes_at s in
    let part = c.in_ok-part in
    one_goes_on cs c.get.result.now c.args.of.now (elab_at s c.args.locals.now) (unary_form c.args.op) (typed_at cs part.part) c.unary.result c.get.ensures part.ensures.0 (c.unary.ensures cs)

pub binary_text-returns : goal.binary_text-returns
binary_text-returns t c =
    let s = c.args.context.now in
    let cs = classes_at s in
    let right = c.in_ok-right in
    one_goes_on cs c.get.result.now c.args.right.now (elab_at s c.args.locals.now) (binary_form c.args.op (typed_at cs c.args.left)) (typed_at cs right.right) c.binary.result c.get.ensures right.ensures.0 (c.binary.ensures cs)

pub host_text-returns : goal.host_text-returns
host_text-returns t c =
    let s = c.args.context.now in
    let cs = classes_at s in
    let right = c.in_ok-right in
    one_goes_on cs c.get.result.now c.args.right.now (elab_at s c.args.locals.now) (host_form c.args.code (typed_at cs c.args.left)) (typed_at cs right.right) c.host.result c.get.ensures right.ensures.0 (c.host.ensures cs)

pub operation-unreachable-requires : goal.operation-unreachable-requires
operation-unreachable-requires t c = is_some_operation c.args.text.now c.requires.form c.in_default.not-Unary c.in_default.not-Binary c.in_default.not-Host

pub class_operation-unreachable-requires : goal.class_operation-unreachable-requires
class_operation-unreachable-requires t c = is_some_class_operation c.args.text.now c.requires.form c.in_default.not-Cast c.in_default.not-Isa c.in_default.not-Proxy

pub method_call-unreachable-requires : goal.method_call-unreachable-requires
method_call-unreachable-requires t c = is_some_method_call c.args.text.now c.requires.form c.in_default.not-Call c.in_default.not-Lookup c.in_default.not-Dispatch

pub inherited_call-unreachable-requires : goal.inherited_call-unreachable-requires
inherited_call-unreachable-requires t c = is_some_inherited_call c.args.text.now c.requires.form c.in_default.not-Parent c.in_default.not-Parents
