use Rattle.std.proofs.Common.{◌<◌, List, length, slice_index_or, map, Ok, Err, refl, sym, ap, ◌∙◌, subst, arith}
use Rattle.std.proofs.lemmas.Result.{err_from_is_err_and}
use Rattle.som_model.specs.Typing.{Of, PlainNil, value, value_of}
use Rattle.som_model.specs.declared.key.ValueType.TheVariants as types
use Rattle.som_model.specs.declared.syntax.Expr.{Expr}
use Rattle.som_verify_forms.specs.declared.kind.Kind.{Kind}
use Rattle.som_verify_forms.specs.declared.kind.Kind.TheVariants as kinds
use Rattle.som_verify_forms.specs.Kinds.{AllStand, Fails, Types, kind_at, type_at}
use Rattle.som_verify_types.specs.Codes.{classes_in, facts_in, place_in, typed_in}
use Rattle.som_verify_types.proofs.ArgLaws.{args_go_on}
use Rattle.som_verify_types.proofs.ExprLaws.{boolean_typed, cast_typed, class_typed, isa_typed, local_typed, long_typed, me_typed, new_typed, nil_typed, parent_call_typed, parents_call_typed, proxy_typed, str_typed, unary_typed, variable_typed}
use Rattle.som_verify_forms.proofs.KindLaws.{all_stand_more}
use Rattle.som_verify_types.proofs.PartLaws.{binary_fails, binary_goes_on, comes_on, dispatch_fails, dispatch_goes_on, host_fails, host_goes_on, if_ok_so, lookup_fails, lookup_goes_on, offset_call_fails, offset_call_goes_on, part_as, stands_if_ok, types_as}
use Rattle.som_verify_types.proofs.expressions.+kinds.Goals as goal

pub kind_in-returns-in-Long : goal.kind_in-returns-in-Long
kind_in-returns-in-Long t c =
    let code = c.args.code.now in
    let e = c.in-Long in
    types_as (classes_in code) (typed_in code) _ _ (Ok (Of types.Long)) (Ok kinds.Long) e.is (long_typed (facts_in code) (place_in code) (map (type_at (classes_in code)) code.scope.now) e.field-0)
    ((refl, tt))

pub kind_in-returns-in-Str : goal.kind_in-returns-in-Str
kind_in-returns-in-Str t c =
    let code = c.args.code.now in
    let e = c.in-Str in
    types_as (classes_in code) (typed_in code) _ _ (Ok (Of types.Str)) (Ok kinds.Str) e.is (str_typed (facts_in code) (place_in code) (map (type_at (classes_in code)) code.scope.now) e.field-0)
    ((refl, tt))

pub kind_in-returns-in-Boolean : goal.kind_in-returns-in-Boolean
kind_in-returns-in-Boolean t c =
    let code = c.args.code.now in
    let e = c.in-Boolean in
    types_as (classes_in code) (typed_in code) _ _ (Ok (Of types.Boolean)) (Ok kinds.Boolean) e.is (boolean_typed (facts_in code) (place_in code) (map (type_at (classes_in code)) code.scope.now) e.field-0)
    ((refl, tt))

pub kind_in-returns-in-Nil : goal.kind_in-returns-in-Nil
kind_in-returns-in-Nil t c =
    let code = c.args.code.now in
    let e = c.in-Nil in
    types_as (classes_in code) (typed_in code) _ _ (Ok (PlainNil)) (Ok kinds.Nil) e.is (nil_typed (facts_in code) (place_in code) (map (type_at (classes_in code)) code.scope.now))
    ((refl, tt))

pub kind_in-returns-in-Local : goal.kind_in-returns-in-Local
kind_in-returns-in-Local t c =
    let code = c.args.code.now in
    let e = c.in-Local in
    types_as (classes_in code) (typed_in code) _ _ _ c.named.result e.is (local_typed (facts_in code) (place_in code) (map (type_at (classes_in code)) code.scope.now) e.place)
    (c.named.ensures (classes_in code) _ (c.local_kind.ensures (classes_in code) c.requires.scope))

pub kind_in-returns-in-Me : goal.kind_in-returns-in-Me
kind_in-returns-in-Me t c =
    let code = c.args.code.now in
    let e = c.in-Me in
    types_as (classes_in code) (typed_in code) _ _ _ c.ruled.result e.is (me_typed (facts_in code) (place_in code) (map (type_at (classes_in code)) code.scope.now))
    (c.ruled.ensures (classes_in code) _ c.self_kind.ensures)

pub kind_in-returns-in-Variable : goal.kind_in-returns-in-Variable
kind_in-returns-in-Variable t c =
    let code = c.args.code.now in
    let e = c.in-Variable in
    types_as (classes_in code) (typed_in code) _ _ _ c.named-in-Variable.result e.is (variable_typed (facts_in code) (place_in code) (map (type_at (classes_in code)) code.scope.now) e.place)
    (c.named-in-Variable.ensures (classes_in code) _ c.variable_kind.ensures)

pub kind_in-returns-in-New : goal.kind_in-returns-in-New
kind_in-returns-in-New t c =
    let code = c.args.code.now in
    let e = c.in-New in
    types_as (classes_in code) (typed_in code) _ _ _ c.ruled-in-New.result e.is (new_typed (facts_in code) (place_in code) (map (type_at (classes_in code)) code.scope.now) e.class)
    (c.ruled-in-New.ensures (classes_in code) _ (rw c.get-in-New.ensures at c.new_kind.ensures))

pub kind_in-returns-in-Class : goal.kind_in-returns-in-Class
kind_in-returns-in-Class t c =
    let code = c.args.code.now in
    let e = c.in-Class in
    types_as (classes_in code) (typed_in code) _ _ _ c.ruled-in-Class.result e.is (class_typed (facts_in code) (place_in code) (map (type_at (classes_in code)) code.scope.now) e.class)
    (c.ruled-in-Class.ensures (classes_in code) _ (rw c.get-in-Class.ensures at c.class_kind.ensures))

pub kind_in-returns-in-Unary : goal.kind_in-returns-in-Unary
kind_in-returns-in-Unary t c =
    let code = c.args.code.now in
    let e = c.in-Unary in
    types_as (classes_in code) (typed_in code) _ _ _ c.unary.result e.is (unary_typed (facts_in code) (place_in code) (map (type_at (classes_in code)) code.scope.now) e.op e.of)
    (c.unary.ensures (classes_in code) _ (part_as (classes_in code) (typed_in code) _ e.of c.value_in.result c.get.ensures c.value_in.ensures))

pub kind_in-returns-in-Cast : goal.kind_in-returns-in-Cast
kind_in-returns-in-Cast t c =
    let code = c.args.code.now in
    let e = c.in-Cast in
    types_as (classes_in code) (typed_in code) _ _ _ c.cast.result e.is (cast_typed (facts_in code) (place_in code) (map (type_at (classes_in code)) code.scope.now) e.class e.of)
    (c.cast.ensures _ (part_as (classes_in code) (typed_in code) _ e.of c.value_in-in-Cast.result c.get-in-Cast.ensures c.value_in-in-Cast.ensures))

pub kind_in-cast-requires-clause-part : goal.kind_in-cast-requires-clause-part
kind_in-cast-requires-clause-part t c =
    let code = c.args.code.now in
    stands_if_ok (classes_in code) _ c.value_in-in-Cast.result c.value_in-in-Cast.ensures

pub kind_in-returns-in-Isa : goal.kind_in-returns-in-Isa
kind_in-returns-in-Isa t c =
    let code = c.args.code.now in
    let e = c.in-Isa in
    types_as (classes_in code) (typed_in code) _ _ _ c.isa.result e.is (isa_typed (facts_in code) (place_in code) (map (type_at (classes_in code)) code.scope.now) e.class e.of)
    (c.isa.ensures _ (part_as (classes_in code) (typed_in code) _ e.of c.value_in-in-Isa.result c.get-in-Isa.ensures c.value_in-in-Isa.ensures))

pub kind_in-isa-requires-clause-part : goal.kind_in-isa-requires-clause-part
kind_in-isa-requires-clause-part t c =
    let code = c.args.code.now in
    stands_if_ok (classes_in code) _ c.value_in-in-Isa.result c.value_in-in-Isa.ensures

pub kind_in-returns-in-Proxy : goal.kind_in-returns-in-Proxy
kind_in-returns-in-Proxy t c =
    let code = c.args.code.now in
    let e = c.in-Proxy in
    types_as (classes_in code) (typed_in code) _ _ _ c.proxy.result e.is (proxy_typed (facts_in code) (place_in code) (map (type_at (classes_in code)) code.scope.now) e.class e.of)
    (c.proxy.ensures _ (part_as (classes_in code) (typed_in code) _ e.of c.value_in-in-Proxy.result c.get-in-Proxy.ensures c.value_in-in-Proxy.ensures))

pub kind_in-proxy-requires-clause-part : goal.kind_in-proxy-requires-clause-part
kind_in-proxy-requires-clause-part t c =
    let code = c.args.code.now in
    stands_if_ok (classes_in code) _ c.value_in-in-Proxy.result c.value_in-in-Proxy.ensures

pub kind_in-returns-in_ok-left-in-Binary : goal.kind_in-returns-in_ok-left-in-Binary
kind_in-returns-in_ok-left-in-Binary t c =
    let code = c.args.code.now in
    let e = c.in-Binary in
    let on = c.in_ok-left-in-Binary in
    types_as (classes_in code) (typed_in code) _ _ _ c.binary.result e.is (binary_goes_on (facts_in code) (place_in code) (map (type_at (classes_in code)) code.scope.now) e.op e.left e.right (kind_at (classes_in code) on.left) (ap (λ z. value (typed_in code z)) (sym c.get-in-Binary.ensures) ∙ on.ensures.0))
    (c.binary.ensures (classes_in code) _ (part_as (classes_in code) (typed_in code) _ e.right c.value_in-in-Binary-2.result c.get-in-Binary-2.ensures c.value_in-in-Binary-2.ensures))

pub kind_in-returns-in_ok-left-in-Host : goal.kind_in-returns-in_ok-left-in-Host
kind_in-returns-in_ok-left-in-Host t c =
    let code = c.args.code.now in
    let e = c.in-Host in
    let on = c.in_ok-left-in-Host in
    types_as (classes_in code) (typed_in code) _ _ _ c.host.result e.is (host_goes_on (facts_in code) (place_in code) (map (type_at (classes_in code)) code.scope.now) e.code e.a e.b (kind_at (classes_in code) on.left) (ap (λ z. value (typed_in code z)) (sym c.get-in-Host.ensures) ∙ on.ensures.0))
    (c.host.ensures (classes_in code) _ (part_as (classes_in code) (typed_in code) _ e.b c.value_in-in-Host-2.result c.get-in-Host-2.ensures c.value_in-in-Host-2.ensures))

pub call_in-returns-in_ok-receiver-in-OffsetCall : goal.call_in-returns-in_ok-receiver-in-OffsetCall
call_in-returns-in_ok-receiver-in-OffsetCall t c =
    let code = c.args.code.now in
    let e = c.in-OffsetCall in
    let on = c.in_ok-receiver-in-OffsetCall in
    types_as (classes_in code) (typed_in code) _ _ _ c.offset_call.result e.is (offset_call_goes_on (facts_in code) (place_in code) (map (type_at (classes_in code)) code.scope.now) e.method e.receiver e.args (kind_at (classes_in code) on.receiver) (ap (λ z. value (typed_in code z)) (sym c.get.ensures) ∙ on.ensures.0))
    (c.offset_call.ensures _ c.values_in.ensures.kinds c.values_in.ensures.fault)

pub call_in-returns-in_ok-receiver-in-Lookup : goal.call_in-returns-in_ok-receiver-in-Lookup
call_in-returns-in_ok-receiver-in-Lookup t c =
    let code = c.args.code.now in
    let e = c.in-Lookup in
    let on = c.in_ok-receiver-in-Lookup in
    types_as (classes_in code) (typed_in code) _ _ _ c.named_call.result e.is (lookup_goes_on (facts_in code) (place_in code) (map (type_at (classes_in code)) code.scope.now) e.answer e.name e.receiver e.args (kind_at (classes_in code) on.receiver) (ap (λ z. value (typed_in code z)) (sym c.get-in-Lookup.ensures) ∙ on.ensures.0))
    (c.named_call.ensures _ c.values_in-in-Lookup.ensures.kinds c.values_in-in-Lookup.ensures.fault)

pub call_in-returns-in_ok-receiver-in-Dispatch : goal.call_in-returns-in_ok-receiver-in-Dispatch
call_in-returns-in_ok-receiver-in-Dispatch t c =
    let code = c.args.code.now in
    let e = c.in-Dispatch in
    let on = c.in_ok-receiver-in-Dispatch in
    types_as (classes_in code) (typed_in code) _ _ _ c.named_call-in-Dispatch.result e.is (dispatch_goes_on (facts_in code) (place_in code) (map (type_at (classes_in code)) code.scope.now) e.answer e.name e.receiver e.args (kind_at (classes_in code) on.receiver) (ap (λ z. value (typed_in code z)) (sym c.get-in-Dispatch.ensures) ∙ on.ensures.0))
    (c.named_call-in-Dispatch.ensures _ c.values_in-in-Dispatch.ensures.kinds c.values_in-in-Dispatch.ensures.fault)

pub call_in-returns-in-ParentCall : goal.call_in-returns-in-ParentCall
call_in-returns-in-ParentCall t c =
    let code = c.args.code.now in
    let e = c.in-ParentCall in
    types_as (classes_in code) (typed_in code) _ _ _ c.parent_call.result e.is (parent_call_typed (facts_in code) (place_in code) (map (type_at (classes_in code)) code.scope.now) e.parent e.method e.args)
    (c.parent_call.ensures _ c.values_in-in-ParentCall.ensures.kinds c.values_in-in-ParentCall.ensures.fault)

pub call_in-returns-in-ParentsCall : goal.call_in-returns-in-ParentsCall
call_in-returns-in-ParentsCall t c =
    let code = c.args.code.now in
    let e = c.in-ParentsCall in
    types_as (classes_in code) (typed_in code) _ _ _ c.parents_call.result e.is (parents_call_typed (facts_in code) (place_in code) (map (type_at (classes_in code)) code.scope.now) e.method e.args)
    (c.parents_call.ensures _ c.values_in-in-ParentsCall.ensures.kinds c.values_in-in-ParentsCall.ensures.fault)

pub call_in-offset_call-requires-clause-args : goal.call_in-offset_call-requires-clause-args
call_in-offset_call-requires-clause-args t c =
    let code = c.args.code.now in
    if_ok_so _ _ c.values_in.result (λ x are. are.stand) c.values_in.ensures.kinds

pub call_in-parent_call-requires-clause-args : goal.call_in-parent_call-requires-clause-args
call_in-parent_call-requires-clause-args t c =
    let code = c.args.code.now in
    if_ok_so _ _ c.values_in-in-ParentCall.result (λ x are. are.stand) c.values_in-in-ParentCall.ensures.kinds

pub call_in-parents_call-requires-clause-args : goal.call_in-parents_call-requires-clause-args
call_in-parents_call-requires-clause-args t c =
    let code = c.args.code.now in
    if_ok_so _ _ c.values_in-in-ParentsCall.result (λ x are. are.stand) c.values_in-in-ParentsCall.ensures.kinds

pub kind_in-returns-in_err-left-in-Binary : goal.kind_in-returns-in_err-left-in-Binary
kind_in-returns-in_err-left-in-Binary t c =
    let code = c.args.code.now in
    let e = c.in-Binary in
    let f = c.in_err-left-in-Binary.field-0.0 in
    let p = err_from_is_err_and c.from_residual.result c.from_residual.ensures.1 in
    rw (p.1, p.2) (subst (λ (z : Expr). Types (classes_in code) (typed_in code z) (Err f)) (sym e.is)
    (binary_fails (facts_in code) (place_in code) (map (type_at (classes_in code)) code.scope.now) (classes_in code) e.op e.left e.right f (subst (λ (z : Expr). Fails (value (typed_in code z)) f) c.get-in-Binary.ensures c.in_err-left-in-Binary.ensures)))

pub kind_in-returns-in_err-left-in-Host : goal.kind_in-returns-in_err-left-in-Host
kind_in-returns-in_err-left-in-Host t c =
    let code = c.args.code.now in
    let e = c.in-Host in
    let f = c.in_err-left-in-Host.field-0.0 in
    let p = err_from_is_err_and c.from_residual-in_err-left-in-Host.result c.from_residual-in_err-left-in-Host.ensures.1 in
    rw (p.1, p.2) (subst (λ (z : Expr). Types (classes_in code) (typed_in code z) (Err f)) (sym e.is)
    (host_fails (facts_in code) (place_in code) (map (type_at (classes_in code)) code.scope.now) (classes_in code) e.code e.a e.b f (subst (λ (z : Expr). Fails (value (typed_in code z)) f) c.get-in-Host.ensures c.in_err-left-in-Host.ensures)))

pub call_in-returns-in_err-receiver-in-OffsetCall : goal.call_in-returns-in_err-receiver-in-OffsetCall
call_in-returns-in_err-receiver-in-OffsetCall t c =
    let code = c.args.code.now in
    let e = c.in-OffsetCall in
    let f = c.in_err-receiver-in-OffsetCall.field-0.0 in
    let p = err_from_is_err_and c.from_residual.result c.from_residual.ensures.1 in
    rw (p.1, p.2) (subst (λ (z : Expr). Types (classes_in code) (typed_in code z) (Err f)) (sym e.is)
    (offset_call_fails (facts_in code) (place_in code) (map (type_at (classes_in code)) code.scope.now) (classes_in code) e.method e.receiver e.args f (subst (λ (z : Expr). Fails (value (typed_in code z)) f) c.get.ensures c.in_err-receiver-in-OffsetCall.ensures)))

pub call_in-returns-in_err-receiver-in-Lookup : goal.call_in-returns-in_err-receiver-in-Lookup
call_in-returns-in_err-receiver-in-Lookup t c =
    let code = c.args.code.now in
    let e = c.in-Lookup in
    let f = c.in_err-receiver-in-Lookup.field-0.0 in
    let p = err_from_is_err_and c.from_residual-in_err-receiver-in-Lookup.result c.from_residual-in_err-receiver-in-Lookup.ensures.1 in
    rw (p.1, p.2) (subst (λ (z : Expr). Types (classes_in code) (typed_in code z) (Err f)) (sym e.is)
    (lookup_fails (facts_in code) (place_in code) (map (type_at (classes_in code)) code.scope.now) (classes_in code) e.answer e.name e.receiver e.args f (subst (λ (z : Expr). Fails (value (typed_in code z)) f) c.get-in-Lookup.ensures c.in_err-receiver-in-Lookup.ensures)))

pub call_in-returns-in_err-receiver-in-Dispatch : goal.call_in-returns-in_err-receiver-in-Dispatch
call_in-returns-in_err-receiver-in-Dispatch t c =
    let code = c.args.code.now in
    let e = c.in-Dispatch in
    let f = c.in_err-receiver-in-Dispatch.field-0.0 in
    let p = err_from_is_err_and c.from_residual-in_err-receiver-in-Dispatch.result c.from_residual-in_err-receiver-in-Dispatch.ensures.1 in
    rw (p.1, p.2) (subst (λ (z : Expr). Types (classes_in code) (typed_in code z) (Err f)) (sym e.is)
    (dispatch_fails (facts_in code) (place_in code) (map (type_at (classes_in code)) code.scope.now) (classes_in code) e.answer e.name e.receiver e.args f (subst (λ (z : Expr). Fails (value (typed_in code z)) f) c.get-in-Dispatch.ensures c.in_err-receiver-in-Dispatch.ensures)))

pub value_in-returns : goal.value_in-returns
value_in-returns t c =
    let cs = classes_in c.args.code.now in
    let on = c.in_ok-kind_in in
    c.ruled.ensures cs _ (comes_on cs (typed_in c.args.code.now c.args.expr.now) value_of _ c.value.result on.ensures.0 (c.value.ensures cs on.ensures.1))

pub values_in-loop-arg-preserved : goal.values_in-loop-arg-preserved
values_in-loop-arg-preserved t c =
    let code = c.args.code.now in
    let es = c.args.args.now in
    let i = c.loop-arg.arg-index in
    let e = c.arg-item.result in
    let k = c.in_ok-value_in.field-0 in
    let lt = subst (λ (z : List Expr). i < length z) c.as_slice-arg-items.ensures c.loop-arg-test.true in
    let is = c.arg-item.is ∙ ap (λ (z : List Expr). slice_index_or z i e) c.as_slice-arg-items.ensures in
    record {
      typed = args_go_on (classes_in code) (typed_in code) es c.loop-arg.kinds.items i c.loop-arg.invariant.typed _ e k c.push.new.self.items (omega arith) lt is c.in_ok-value_in.ensures.0 c.in_ok-push.ensures.items;
      stand = subst (AllStand (classes_in code)) (sym {A = List Kind} c.in_ok-push.ensures.items) (all_stand_more (classes_in code) c.loop-arg.kinds.items k c.loop-arg.invariant.stand c.in_ok-value_in.ensures.1);
    }
