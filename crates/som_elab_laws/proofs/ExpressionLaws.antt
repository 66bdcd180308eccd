-- What the text of an expression comes to is what it says.
use Rattle.std.proofs.Common.{◌≡◌, List, [], ◌∷◌, map, Ok, Err, refl, sym, ap, ◌∙◌, subst}
use Rattle.std.specs.Int.{w32, cast_signed}
use Rattle.som_model.specs.declared.key.ClassKey.{ClassKey}
use Rattle.som_model.specs.declared.key.ValueType.TheVariants as types
use Rattle.som_model.specs.declared.syntax.Expr.{Expr}
use Rattle.som_model.specs.declared.syntax.Expr.TheVariants as exprs
use Rattle.som_model.specs.declared.class.Way.{Way}
use Rattle.som_model.specs.declared.class.Way.TheVariants as ways
use Rattle.som_model.specs.Kernel.{som_class_mgr}
use Rattle.som_model.specs.Steps.{◌>>=◌}
use Rattle.som_model.specs.Typing.{ClassFacts, CodePlace, Of, PlainNil, Typed, there, all_fit, local_type, own_variable, self_type, unary_type, binary_type, host_type, new_type, class_type, cast_type, isa_type, proxy_type, offset_call_type, named_call_type, parent_call_type, parents_call_type}
use Rattle.som_model.proofs.StepLaws.{held, same_answer, went, found}
use Rattle.som_ast.specs.declared.words.Word.{Word}
use Rattle.som_ast.specs.declared.expression.ExprText.{ExprText, roll-ExprText, map-ExprText, ind-ExprText, fold-roll-ExprText}
use Rattle.som_ast.specs.declared.expression.ExprText.TheOpen.{ExprText-F}
use Rattle.som_ast.specs.declared.expression.ExprText.TheVariants as texts
use Rattle.som_sema_scope.specs.ClassNames.{result_of}
use Rattle.som_elab_body.specs.Locals.{Names, kinds_of, local_of}
use Rattle.som_elab_body.specs.Methods.{Method, method_of, method_for, own_method, variable_place, parent_place}
use Rattle.som_elab_body.specs.Expressions.{Among, Elab, Elaborated, binary_form, call_form, called_by, cast_form, class_named, dispatch_form, elaborated, elaborated_value, expr_step, exprs_of, facts_among, formed, host_form, isa_form, lookup_form, parent_form, parents_form, part, parts, proxy_form, types_of, unary_form}
use Rattle.som_elab_body.proofs.TypedExpressions.{expr_typed, valued_part}
use Rattle.som_elab_laws.specs.Named.{HasMethod, IsOf}
use Rattle.som_elab_laws.specs.Expressions.{ExprSays, ExprsSay, a_number, a_literal, a_boolean, plain_nil, self, a_manager, a_local, a_variable, a_unary, a_binary, a_host_call, a_new, a_class, a_cast, an_isa, a_proxy, an_offset_call, a_call_by_name, a_lookup, a_dispatch, a_parent_call, a_parents_call, no_expression, one_expression}
use Rattle.som_elab_laws.proofs.NamedLaws.{ObjectHas, local_is, method_is, object_has, own_has, parent_is, variable_is}

-- an expression that is formed is that of its form
formed_is : (e : Expr) (t : Typed) (p : Elaborated) → formed e t ≡ Ok p → e ≡ p.expr
formed_is e (Ok u) p h = ap (λ (z : Elaborated). z.expr) (same_answer h)
formed_is e (Err rule) p h = absurd (let z = h in cc)

module _ (a : Among) (at : CodePlace) (scope : Names) where
  abbrev facts : ClassFacts
  facts = facts_among a

  abbrev E : ExprText → Elab
  E = elaborated a at scope

  abbrev Says : ExprText → Type 0
  Says t = (p : Elaborated) → E t ≡ Ok p → ExprSays a at scope t p.expr

  abbrev Kept : Type 0
  Kept = (t : ExprText) × Says t

  abbrev kept_texts : List Kept → List ExprText
  kept_texts = map (λ (k : Kept). k.0)

  says : (l : ExprText-F ExprText) (t : ExprText) (e : Expr) (type : Typed) (p : Elaborated) → roll-ExprText l ≡ t → ExprSays a at scope t e → formed e type ≡ Ok p → ExprSays a at scope (roll-ExprText l) p.expr
  says l t e type p rolls s h =
      subst (λ z. ExprSays a at scope z p.expr) (sym rolls) (subst (λ z. ExprSays a at scope t z) (formed_is e type p h) s)

  part_says : (k : Kept) (p : Elaborated) → part (E k.0) ≡ Ok p → ExprSays a at scope k.0 p.expr
  part_says k p h = k.1 p (valued_part (E k.0) p h).made

  parts_say : (ks : List Kept) (ps : List Elaborated) → parts (map E (kept_texts ks)) ≡ Ok ps → ExprsSay a at scope (kept_texts ks) (exprs_of ps)
  parts_say [] ps h = subst (λ (z : List Elaborated). ExprsSay a at scope [] (exprs_of z)) (same_answer h) no_expression
  parts_say (k ∷ ks) ps h =
      let p = went (part (E k.0)) (λ p. parts (map E (kept_texts ks)) >>= λ ps. Ok (p ∷ ps)) ps h in
      let more = went (parts (map E (kept_texts ks))) (λ ps. Ok (p.value ∷ ps)) ps p.further in
      subst (λ (z : List Elaborated). ExprsSay a at scope (k.0 ∷ kept_texts ks) (exprs_of z)) (same_answer more.further)
      (one_expression (part_says k p.value p.first) (parts_say ks more.value more.first))

  -- a part is of the class that its type is
  part_of : (k : Kept) (p : Elaborated) (c : ClassKey) → part (E k.0) ≡ Ok p → p.type ≡ Of (types.Class c) → IsOf a at scope p.expr c
  part_of k p c h is = expr_typed a at scope k.0 p (valued_part (E k.0) p h).made ∙ ap Ok is

  -- a call of the method that the receiver has
  called_says : (e : ExprText) (w : Word) (es : List ExprText) (on : Elaborated) (args : List Elaborated) (m : Method) (p : Elaborated)
      → (o : ObjectHas a.classes on.type w.text m) → IsOf a at scope on.expr o.class → ExprSays a at scope e on.expr → ExprsSay a at scope es (exprs_of args)
      → (way : Way) → m.way ≡ way → called_by facts on args m way ≡ Ok p → ExprSays a at scope (roll-ExprText (ExprText-F.Call e w es)) p.expr
  called_says e w es on args m p o of s t ways.Offset is h =
      says (ExprText-F.Call e w es) (texts.Call e w es) (exprs.OffsetCall m.ref on.expr (exprs_of args)) (offset_call_type facts m.ref on.type (types_of args)) p (texts.rolls-Call e w es)
      (an_offset_call s t of (subst (λ z. HasMethod a.classes o.class w.text m.ref m.sig z) is o.has)) h
  called_says e w es on args m p o of s t ways.Lookup is h =
      let made : Elab = formed (exprs.Lookup m.sig.result m.ref.name on.expr (exprs_of args)) (named_call_type facts m.sig.result on.type (types_of args)) in
      let said : ExprSays a at scope (texts.Call e w es) (exprs.Lookup m.sig.result w.text on.expr (exprs_of args)) =
      a_call_by_name s t of (subst (λ z. HasMethod a.classes o.class w.text m.ref m.sig z) is o.has) in
      says (ExprText-F.Call e w es) (texts.Call e w es) (exprs.Lookup m.sig.result m.ref.name on.expr (exprs_of args)) (named_call_type facts m.sig.result on.type (types_of args)) p (texts.rolls-Call e w es)
      (subst (λ z. ExprSays a at scope (texts.Call e w es) (exprs.Lookup m.sig.result z on.expr (exprs_of args))) (sym o.has.named) said)
      (held 18 (all_fit facts m.sig.params (types_of args)) made p h).1

  layer_says : (y : ExprText-F Kept) (p : Elaborated) → expr_step a at scope (map-ExprText ExprText Elab E (map-ExprText Kept ExprText (λ (k : Kept). k.0) y)) ≡ Ok p
      → ExprSays a at scope (roll-ExprText (map-ExprText Kept ExprText (λ (k : Kept). k.0) y)) p.expr
  layer_says (ExprText-F.Number n) p h =
      says (ExprText-F.Number n) (texts.Number n) (exprs.Long (cast_signed w32 n)) (Ok (Of types.Long)) p (texts.rolls-Number n) a_number h
  layer_says (ExprText-F.Literal t) p h = says (ExprText-F.Literal t) (texts.Literal t) (exprs.Str t) (Ok (Of types.Str)) p (texts.rolls-Literal t) a_literal h
  layer_says (ExprText-F.Boolean b) p h = says (ExprText-F.Boolean b) (texts.Boolean b) (exprs.Boolean b) (Ok (Of types.Boolean)) p (texts.rolls-Boolean b) a_boolean h
  layer_says ExprText-F.Nil p h = says ExprText-F.Nil texts.Nil exprs.Nil (Ok PlainNil) p texts.rolls-Nil plain_nil h
  layer_says (ExprText-F.Name word) p h =
      let n = went (there 16 (local_of scope word.text)) (λ n. formed (exprs.Local n) (local_type (kinds_of scope) n)) p h in
      says (ExprText-F.Name word) (texts.Name word) (exprs.Local n.value) (local_type (kinds_of scope) n.value) p (texts.rolls-Name word)
      (a_local (local_is scope word.text n.value (found 16 (local_of scope word.text) n.value n.first))) n.further
  layer_says ExprText-F.Me p h = says ExprText-F.Me texts.Me exprs.Me (self_type at) p texts.rolls-Me self h
  layer_says (ExprText-F.Variable word) p h =
      let n = went (there 16 (variable_place at.class word.text)) (λ n. formed (exprs.Variable n) (own_variable at n >>= λ kind. Ok (Of kind))) p h in
      says (ExprText-F.Variable word) (texts.Variable word) (exprs.Variable n.value) (own_variable at n.value >>= λ kind. Ok (Of kind)) p (texts.rolls-Variable word)
      (a_variable (variable_is at word.text n.value (found 16 (variable_place at.class word.text) n.value n.first))) n.further
  layer_says (ExprText-F.Unary op k) p h =
      let q = went (part (E k.0)) (unary_form op) p h in
      says (ExprText-F.Unary op k.0) (texts.Unary op k.0) (exprs.Unary op q.value.expr) (unary_type op q.value.type) p (texts.rolls-Unary op k.0) (a_unary (part_says k q.value q.first)) q.further
  layer_says (ExprText-F.Binary op k l) p h =
      let q = went (part (E k.0)) (λ q. part (E l.0) >>= binary_form op q) p h in
      let r = went (part (E l.0)) (binary_form op q.value) p q.further in
      says (ExprText-F.Binary op k.0 l.0) (texts.Binary op k.0 l.0) (exprs.Binary op q.value.expr r.value.expr) (binary_type op q.value.type r.value.type) p (texts.rolls-Binary op k.0 l.0)
      (a_binary (part_says k q.value q.first) (part_says l r.value r.first)) r.further
  layer_says (ExprText-F.New word) p h =
      says (ExprText-F.New word) (texts.New word) (exprs.New (class_named a word.text)) (new_type facts (class_named a word.text)) p (texts.rolls-New word) a_new h
  layer_says (ExprText-F.Class word) p h =
      says (ExprText-F.Class word) (texts.Class word) (exprs.Class (class_named a word.text)) (class_type facts (class_named a word.text)) p (texts.rolls-Class word) a_class h
  layer_says ExprText-F.Manager p h = says ExprText-F.Manager texts.Manager exprs.Manager (Ok (Of (types.Class som_class_mgr))) p texts.rolls-Manager a_manager h
  layer_says (ExprText-F.Cast word k) p h =
      let q = went (part (E k.0)) (cast_form a word.text) p h in
      says (ExprText-F.Cast word k.0) (texts.Cast word k.0) (exprs.Cast (class_named a word.text) q.value.expr) (cast_type facts (class_named a word.text) q.value.type) p (texts.rolls-Cast word k.0)
      (a_cast (part_says k q.value q.first)) q.further
  layer_says (ExprText-F.Isa word k) p h =
      let q = went (part (E k.0)) (isa_form a word.text) p h in
      says (ExprText-F.Isa word k.0) (texts.Isa word k.0) (exprs.Isa (class_named a word.text) q.value.expr) (isa_type facts (class_named a word.text) q.value.type) p (texts.rolls-Isa word k.0)
      (an_isa (part_says k q.value q.first)) q.further
  layer_says (ExprText-F.Proxy word k) p h =
      let q = went (part (E k.0)) (proxy_form a word.text) p h in
      says (ExprText-F.Proxy word k.0) (texts.Proxy word k.0) (exprs.Proxy (class_named a word.text) q.value.expr) (proxy_type facts (class_named a word.text) q.value.type) p (texts.rolls-Proxy word k.0)
      (a_proxy (part_says k q.value q.first)) q.further
  layer_says (ExprText-F.Call k word ks) p h =
      let q = went (part (E k.0)) (λ on. parts (map E (kept_texts ks)) >>= call_form a on word.text) p h in
      let qs = went (parts (map E (kept_texts ks))) (call_form a q.value word.text) p q.further in
      let m = went (there 16 (method_for a.classes q.value.type word.text)) (λ m. called_by facts q.value qs.value m m.way) p qs.further in
      let o = object_has a.classes q.value.type word.text m.value (found 16 (method_for a.classes q.value.type word.text) m.value m.first) in
      called_says k.0 word (kept_texts ks) q.value qs.value m.value p o (part_of k q.value o.class q.first o.type) (part_says k q.value q.first) (parts_say ks qs.value qs.first) m.value.way refl m.further
  layer_says (ExprText-F.Lookup answer k word ks) p h =
      let kind = result_of a.module_of answer in
      let q = went (part (E k.0)) (λ on. parts (map E (kept_texts ks)) >>= lookup_form a answer on word.text) p h in
      let qs = went (parts (map E (kept_texts ks))) (lookup_form a answer q.value word.text) p q.further in
      says (ExprText-F.Lookup answer k.0 word (kept_texts ks)) (texts.Lookup answer k.0 word (kept_texts ks)) (exprs.Lookup kind word.text q.value.expr (exprs_of qs.value)) (named_call_type facts kind q.value.type (types_of qs.value)) p
      (texts.rolls-Lookup answer k.0 word (kept_texts ks)) (a_lookup (part_says k q.value q.first) (parts_say ks qs.value qs.first)) qs.further
  layer_says (ExprText-F.Dispatch answer k word ks) p h =
      let kind = result_of a.module_of answer in
      let q = went (part (E k.0)) (λ on. parts (map E (kept_texts ks)) >>= dispatch_form a answer on word.text) p h in
      let qs = went (parts (map E (kept_texts ks))) (dispatch_form a answer q.value word.text) p q.further in
      says (ExprText-F.Dispatch answer k.0 word (kept_texts ks)) (texts.Dispatch answer k.0 word (kept_texts ks)) (exprs.Dispatch kind word.text q.value.expr (exprs_of qs.value)) (named_call_type facts kind q.value.type (types_of qs.value)) p
      (texts.rolls-Dispatch answer k.0 word (kept_texts ks)) (a_dispatch (part_says k q.value q.first) (parts_say ks qs.value qs.first)) qs.further
  layer_says (ExprText-F.Parent parent word ks) p h =
      let key = class_named a parent.text in
      let qs = went (parts (map E (kept_texts ks))) (parent_form a at parent.text word.text) p h in
      let n = went (there 16 (parent_place at.class key))
      (λ n. there 16 (method_of a.classes key word.text) >>= λ m. formed (exprs.ParentCall n m.ref (exprs_of qs.value)) (parent_call_type facts at n m.ref (types_of qs.value))) p qs.further in
      let m = went (there 16 (method_of a.classes key word.text)) (λ m. formed (exprs.ParentCall n.value m.ref (exprs_of qs.value)) (parent_call_type facts at n.value m.ref (types_of qs.value))) p n.further in
      says (ExprText-F.Parent parent word (kept_texts ks)) (texts.Parent parent word (kept_texts ks)) (exprs.ParentCall n.value m.value.ref (exprs_of qs.value)) (parent_call_type facts at n.value m.value.ref (types_of qs.value)) p
      (texts.rolls-Parent parent word (kept_texts ks))
      (a_parent_call (parts_say ks qs.value qs.first) (parent_is at key n.value (found 16 (parent_place at.class key) n.value n.first))
      (method_is a.classes key word.text m.value (found 16 (method_of a.classes key word.text) m.value m.first))) m.further
  layer_says (ExprText-F.Parents word ks) p h =
      let qs = went (parts (map E (kept_texts ks))) (parents_form a at word.text) p h in
      let m = went (there 16 (own_method a.classes at.class word.text)) (λ m. formed (exprs.ParentsCall m.ref (exprs_of qs.value)) (parents_call_type facts at m.ref (types_of qs.value))) p qs.further in
      let o = own_has a.classes at.class word.text m.value (found 16 (own_method a.classes at.class word.text) m.value m.first) in
      says (ExprText-F.Parents word (kept_texts ks)) (texts.Parents word (kept_texts ks)) (exprs.ParentsCall m.value.ref (exprs_of qs.value)) (parents_call_type facts at m.value.ref (types_of qs.value)) p
      (texts.rolls-Parents word (kept_texts ks)) (a_parents_call (parts_say ks qs.value qs.first) o.own o.has) m.further
  layer_says (ExprText-F.Host code k l) p h =
      let q = went (part (E k.0)) (λ q. part (E l.0) >>= host_form code q) p h in
      let r = went (part (E l.0)) (host_form code q.value) p q.further in
      says (ExprText-F.Host code k.0 l.0) (texts.Host code k.0 l.0) (exprs.Host code q.value.expr r.value.expr) (host_type q.value.type r.value.type) p (texts.rolls-Host code k.0 l.0)
      (a_host_call (part_says k q.value q.first) (part_says l r.value r.first)) r.further

  -- a text, void included
  pub expr_says : (t : ExprText) → Says t
  expr_says = ind-ExprText Says (λ x y is. subst (λ z. Says (roll-ExprText z)) is
      (λ p h. layer_says y p (sym (fold-roll-ExprText Elab (expr_step a at scope) (map-ExprText Kept ExprText (λ (k : Kept). k.0) y)) ∙ h)))

  -- a text that has a value
  pub value_says : (t : ExprText) (p : Elaborated) → elaborated_value a at scope t ≡ Ok p → ExprSays a at scope t p.expr
  value_says t p h = part_says (t, expr_says t) p h
