-- What a text of an expression comes to has the type that is said.
use Rattle.std.proofs.Common.{◌≡◌, Bool, false, not, List, [], ◌∷◌, map, Ok, Err, refl, sym, ap, ◌∙◌, subst}
use Rattle.std.specs.Int.{w32, cast_signed}
use Rattle.som_model.specs.declared.key.ValueType.TheVariants as types
use Rattle.som_model.specs.declared.syntax.Expr.{Expr, roll-Expr, map-Expr, fold-roll-Expr}
use Rattle.som_model.specs.declared.syntax.Expr.TheVariants as exprs
use Rattle.som_model.specs.declared.syntax.Expr.TheOpen.{Expr-F}
use Rattle.som_model.specs.declared.class.Way.{Way}
use Rattle.som_model.specs.declared.class.Way.TheVariants as ways
use Rattle.som_model.specs.Steps.{◌>>=◌}
use Rattle.som_model.specs.Kernel.{som_class_mgr}
use Rattle.som_model.specs.Typing.{ClassFacts, CodePlace, ExprType, Of, PlainNil, Typed, needs, there, is_nothing, all_fit, value, value_of, values, local_type, own_variable, self_type, unary_type, binary_type, host_type, new_type, class_type, cast_type, isa_type, proxy_type, offset_call_type, named_call_type, parent_call_type, parents_call_type, expr_type, expr_step as typed_step}
use Rattle.som_model.proofs.StepLaws.{both_steps, held, same_answer, went}
use Rattle.som_model.proofs.ListLaws.{is_false}
use Rattle.som_ast.specs.declared.expression.ExprText.{ExprText, roll-ExprText, map-ExprText, ind-ExprText, fold-roll-ExprText}
use Rattle.som_ast.specs.declared.expression.ExprText.TheOpen.{ExprText-F}
use Rattle.som_sema_scope.specs.ClassNames.{result_of}
use Rattle.som_elab_body.specs.Locals.{Names, kinds_of, local_of}
use Rattle.som_elab_body.specs.Methods.{Method, method_of, method_for, own_method, variable_place, parent_place}
use Rattle.som_elab_body.specs.Expressions.{Among, Elab, Elaborated, binary_form, call_form, called_by, cast_form, class_named, dispatch_form, elaborated, elaborated_value, expr_step, exprs_of, facts_among, formed, host_form, isa_form, lookup_form, parent_form, parents_form, part, parts, proxy_form, types_of, unary_form, valued}

-- a part that was taken has a value
pub record Valued (x : Elab) (p : Elaborated) : Type 0 where
  pub made : x ≡ Ok p
  pub some : is_nothing p.type ≡ false

pub valued_part : (x : Elab) (p : Elaborated) → part x ≡ Ok p → Valued x p
valued_part x p e =
    let w = went x valued p e in
    by w.value w.first (is_nothing w.value.type) refl w.further
  where
    by : (q : Elaborated) → x ≡ Ok q → (b : Bool) → is_nothing q.type ≡ b → needs 20 (not b) (Ok q) ≡ Ok p → Valued x p
    by q first b is h =
        let k = held 20 (not b) (Ok q) p h in
        subst (Valued x) (same_answer k.1) (record { made = first; some = is ∙ is_false b k.0 })

value_typed : (t : ExprType) (x : Typed) → x ≡ Ok t → is_nothing t ≡ false → value x ≡ Ok t
value_typed t x e some = ap (λ z. z >>= value_of) e ∙ ap (λ b. needs 20 (not b) (Ok t)) some

module _ (a : Among) (at : CodePlace) (scope : Names) where
  abbrev facts : ClassFacts
  facts = facts_among a

  abbrev E : ExprText → Elab
  E = elaborated a at scope

  abbrev T : Expr → Typed
  T = expr_type facts at (kinds_of scope)

  abbrev IsTyped : ExprText → Type 0
  IsTyped t = (p : Elaborated) → E t ≡ Ok p → T p.expr ≡ Ok p.type

  abbrev Kept : Type 0
  Kept = (t : ExprText) × IsTyped t

  abbrev texts : List Kept → List ExprText
  texts = map (λ (k : Kept). k.0)

  -- an expression that is formed has the type of its form
  formed_typed : (e : Expr) (t : Typed) (p : Elaborated) → T e ≡ t → formed e t ≡ Ok p → T p.expr ≡ Ok p.type
  formed_typed e (Ok u) p is h = subst (λ (z : Elaborated). T z.expr ≡ Ok z.type) (same_answer h) is
  formed_typed e (Err rule) p is h = absurd (let z = h in cc)

  typed : (l : Expr-F Expr) (e : Expr) (t : Typed) (p : Elaborated) → roll-Expr l ≡ e → typed_step facts at (kinds_of scope) (map-Expr Expr Typed T l) ≡ t → formed e t ≡ Ok p → T p.expr ≡ Ok p.type
  typed l e t p rolls same h = formed_typed e t p (ap T (sym rolls) ∙ fold-roll-Expr Typed (typed_step facts at (kinds_of scope)) l ∙ same) h

  part_typed : (k : Kept) (p : Elaborated) → part (E k.0) ≡ Ok p → value (T p.expr) ≡ Ok p.type
  part_typed k p h = let v = valued_part (E k.0) p h in value_typed p.type (T p.expr) (k.1 p v.made) v.some

  parts_typed : (ks : List Kept) (ps : List Elaborated) → parts (map E (texts ks)) ≡ Ok ps → values (map T (exprs_of ps)) ≡ Ok (types_of ps)
  parts_typed [] ps h = subst (λ (z : List Elaborated). values (map T (exprs_of z)) ≡ Ok (types_of z)) (same_answer h) refl
  parts_typed (k ∷ ks) ps h =
      let p = went (part (E k.0)) (λ p. parts (map E (texts ks)) >>= λ ps. Ok (p ∷ ps)) ps h in
      let more = went (parts (map E (texts ks))) (λ ps. Ok (p.value ∷ ps)) ps p.further in
      subst (λ (z : List Elaborated). values (map T (exprs_of z)) ≡ Ok (types_of z)) (same_answer more.further)
      (both_steps (value (T p.value.expr)) (values (map T (exprs_of more.value))) (λ t ts. Ok (t ∷ ts)) p.value.type (types_of more.value)
      (part_typed k p.value p.first) (parts_typed ks more.value more.first))

  called : (on : Elaborated) (args : List Elaborated) (m : Method) (way : Way) (p : Elaborated)
      → value (T on.expr) ≡ Ok on.type → values (map T (exprs_of args)) ≡ Ok (types_of args) → called_by facts on args m way ≡ Ok p → T p.expr ≡ Ok p.type
  called on args m ways.Offset p u v h =
      typed (Expr-F.OffsetCall m.ref on.expr (exprs_of args)) (exprs.OffsetCall m.ref on.expr (exprs_of args)) (offset_call_type facts m.ref on.type (types_of args)) p
      (exprs.rolls-OffsetCall m.ref on.expr (exprs_of args)) (both_steps (value (T on.expr)) (values (map T (exprs_of args))) (offset_call_type facts m.ref) on.type (types_of args) u v) h
  called on args m ways.Lookup p u v h =
      let made : Elab = formed (exprs.Lookup m.sig.result m.ref.name on.expr (exprs_of args)) (named_call_type facts m.sig.result on.type (types_of args)) in
      typed (Expr-F.Lookup m.sig.result m.ref.name on.expr (exprs_of args)) (exprs.Lookup m.sig.result m.ref.name on.expr (exprs_of args)) (named_call_type facts m.sig.result on.type (types_of args)) p
      (exprs.rolls-Lookup m.sig.result m.ref.name on.expr (exprs_of args)) (both_steps (value (T on.expr)) (values (map T (exprs_of args))) (named_call_type facts m.sig.result) on.type (types_of args) u v)
      (held 18 (all_fit facts m.sig.params (types_of args)) made p h).1

  layer_typed : (y : ExprText-F Kept) (p : Elaborated) → expr_step a at scope (map-ExprText ExprText Elab E (map-ExprText Kept ExprText (λ (k : Kept). k.0) y)) ≡ Ok p → T p.expr ≡ Ok p.type
  layer_typed (ExprText-F.Number n) p h =
      typed (Expr-F.Long (cast_signed w32 n)) (exprs.Long (cast_signed w32 n)) (Ok (Of types.Long)) p (exprs.rolls-Long (cast_signed w32 n)) refl h
  layer_typed (ExprText-F.Literal t) p h = typed (Expr-F.Str t) (exprs.Str t) (Ok (Of types.Str)) p (exprs.rolls-Str t) refl h
  layer_typed (ExprText-F.Boolean b) p h = typed (Expr-F.Boolean b) (exprs.Boolean b) (Ok (Of types.Boolean)) p (exprs.rolls-Boolean b) refl h
  layer_typed ExprText-F.Nil p h = typed Expr-F.Nil exprs.Nil (Ok PlainNil) p exprs.rolls-Nil refl h
  layer_typed (ExprText-F.Name word) p h =
      let n = went (there 16 (local_of scope word.text)) (λ n. formed (exprs.Local n) (local_type (kinds_of scope) n)) p h in
      typed (Expr-F.Local n.value) (exprs.Local n.value) (local_type (kinds_of scope) n.value) p (exprs.rolls-Local n.value) refl n.further
  layer_typed ExprText-F.Me p h = typed Expr-F.Me exprs.Me (self_type at) p exprs.rolls-Me refl h
  layer_typed (ExprText-F.Variable word) p h =
      let n = went (there 16 (variable_place at.class word.text)) (λ n. formed (exprs.Variable n) (own_variable at n >>= λ kind. Ok (Of kind))) p h in
      typed (Expr-F.Variable n.value) (exprs.Variable n.value) (own_variable at n.value >>= λ kind. Ok (Of kind)) p (exprs.rolls-Variable n.value) refl n.further
  layer_typed (ExprText-F.Unary op k) p h =
      let q = went (part (E k.0)) (unary_form op) p h in
      typed (Expr-F.Unary op q.value.expr) (exprs.Unary op q.value.expr) (unary_type op q.value.type) p (exprs.rolls-Unary op q.value.expr)
      (ap (λ v. v >>= unary_type op) (part_typed k q.value q.first)) q.further
  layer_typed (ExprText-F.Binary op k l) p h =
      let q = went (part (E k.0)) (λ q. part (E l.0) >>= binary_form op q) p h in
      let r = went (part (E l.0)) (binary_form op q.value) p q.further in
      typed (Expr-F.Binary op q.value.expr r.value.expr) (exprs.Binary op q.value.expr r.value.expr) (binary_type op q.value.type r.value.type) p (exprs.rolls-Binary op q.value.expr r.value.expr)
      (both_steps (value (T q.value.expr)) (value (T r.value.expr)) (binary_type op) q.value.type r.value.type (part_typed k q.value q.first) (part_typed l r.value r.first)) r.further
  layer_typed (ExprText-F.New word) p h =
      typed (Expr-F.New (class_named a word.text)) (exprs.New (class_named a word.text)) (new_type facts (class_named a word.text)) p (exprs.rolls-New (class_named a word.text)) refl h
  layer_typed (ExprText-F.Class word) p h =
      typed (Expr-F.Class (class_named a word.text)) (exprs.Class (class_named a word.text)) (class_type facts (class_named a word.text)) p (exprs.rolls-Class (class_named a word.text)) refl h
  layer_typed ExprText-F.Manager p h = typed Expr-F.Manager exprs.Manager (Ok (Of (types.Class som_class_mgr))) p exprs.rolls-Manager refl h
  layer_typed (ExprText-F.Cast word k) p h =
      let q = went (part (E k.0)) (cast_form a word.text) p h in
      typed (Expr-F.Cast (class_named a word.text) q.value.expr) (exprs.Cast (class_named a word.text) q.value.expr) (cast_type facts (class_named a word.text) q.value.type) p
      (exprs.rolls-Cast (class_named a word.text) q.value.expr) (ap (λ v. v >>= cast_type facts (class_named a word.text)) (part_typed k q.value q.first)) q.further
  layer_typed (ExprText-F.Isa word k) p h =
      let q = went (part (E k.0)) (isa_form a word.text) p h in
      typed (Expr-F.Isa (class_named a word.text) q.value.expr) (exprs.Isa (class_named a word.text) q.value.expr) (isa_type facts (class_named a word.text) q.value.type) p
      (exprs.rolls-Isa (class_named a word.text) q.value.expr) (ap (λ v. v >>= isa_type facts (class_named a word.text)) (part_typed k q.value q.first)) q.further
  layer_typed (ExprText-F.Proxy word k) p h =
      let q = went (part (E k.0)) (proxy_form a word.text) p h in
      typed (Expr-F.Proxy (class_named a word.text) q.value.expr) (exprs.Proxy (class_named a word.text) q.value.expr) (proxy_type facts (class_named a word.text) q.value.type) p
      (exprs.rolls-Proxy (class_named a word.text) q.value.expr) (ap (λ v. v >>= proxy_type facts (class_named a word.text)) (part_typed k q.value q.first)) q.further
  layer_typed (ExprText-F.Call k word ks) p h =
      let q = went (part (E k.0)) (λ on. parts (map E (texts ks)) >>= call_form a on word.text) p h in
      let qs = went (parts (map E (texts ks))) (call_form a q.value word.text) p q.further in
      let m = went (there 16 (method_for a.classes q.value.type word.text)) (λ m. called_by facts q.value qs.value m m.way) p qs.further in
      called q.value qs.value m.value m.value.way p (part_typed k q.value q.first) (parts_typed ks qs.value qs.first) m.further
  layer_typed (ExprText-F.Lookup answer k word ks) p h =
      let kind = result_of a.module_of answer in
      let q = went (part (E k.0)) (λ on. parts (map E (texts ks)) >>= lookup_form a answer on word.text) p h in
      let qs = went (parts (map E (texts ks))) (lookup_form a answer q.value word.text) p q.further in
      typed (Expr-F.Lookup kind word.text q.value.expr (exprs_of qs.value)) (exprs.Lookup kind word.text q.value.expr (exprs_of qs.value)) (named_call_type facts kind q.value.type (types_of qs.value)) p
      (exprs.rolls-Lookup kind word.text q.value.expr (exprs_of qs.value))
      (both_steps (value (T q.value.expr)) (values (map T (exprs_of qs.value))) (named_call_type facts kind) q.value.type (types_of qs.value) (part_typed k q.value q.first) (parts_typed ks qs.value qs.first)) qs.further
  layer_typed (ExprText-F.Dispatch answer k word ks) p h =
      let kind = result_of a.module_of answer in
      let q = went (part (E k.0)) (λ on. parts (map E (texts ks)) >>= dispatch_form a answer on word.text) p h in
      let qs = went (parts (map E (texts ks))) (dispatch_form a answer q.value word.text) p q.further in
      typed (Expr-F.Dispatch kind word.text q.value.expr (exprs_of qs.value)) (exprs.Dispatch kind word.text q.value.expr (exprs_of qs.value)) (named_call_type facts kind q.value.type (types_of qs.value)) p
      (exprs.rolls-Dispatch kind word.text q.value.expr (exprs_of qs.value))
      (both_steps (value (T q.value.expr)) (values (map T (exprs_of qs.value))) (named_call_type facts kind) q.value.type (types_of qs.value) (part_typed k q.value q.first) (parts_typed ks qs.value qs.first)) qs.further
  layer_typed (ExprText-F.Parent parent word ks) p h =
      let key = class_named a parent.text in
      let qs = went (parts (map E (texts ks))) (parent_form a at parent.text word.text) p h in
      let n = went (there 16 (parent_place at.class key))
      (λ n. there 16 (method_of a.classes key word.text) >>= λ m. formed (exprs.ParentCall n m.ref (exprs_of qs.value)) (parent_call_type facts at n m.ref (types_of qs.value))) p qs.further in
      let m = went (there 16 (method_of a.classes key word.text)) (λ m. formed (exprs.ParentCall n.value m.ref (exprs_of qs.value)) (parent_call_type facts at n.value m.ref (types_of qs.value))) p n.further in
      typed (Expr-F.ParentCall n.value m.value.ref (exprs_of qs.value)) (exprs.ParentCall n.value m.value.ref (exprs_of qs.value)) (parent_call_type facts at n.value m.value.ref (types_of qs.value)) p
      (exprs.rolls-ParentCall n.value m.value.ref (exprs_of qs.value)) (ap (λ v. v >>= parent_call_type facts at n.value m.value.ref) (parts_typed ks qs.value qs.first)) m.further
  layer_typed (ExprText-F.Parents word ks) p h =
      let qs = went (parts (map E (texts ks))) (parents_form a at word.text) p h in
      let m = went (there 16 (own_method a.classes at.class word.text)) (λ m. formed (exprs.ParentsCall m.ref (exprs_of qs.value)) (parents_call_type facts at m.ref (types_of qs.value))) p qs.further in
      typed (Expr-F.ParentsCall m.value.ref (exprs_of qs.value)) (exprs.ParentsCall m.value.ref (exprs_of qs.value)) (parents_call_type facts at m.value.ref (types_of qs.value)) p
      (exprs.rolls-ParentsCall m.value.ref (exprs_of qs.value)) (ap (λ v. v >>= parents_call_type facts at m.value.ref) (parts_typed ks qs.value qs.first)) m.further
  layer_typed (ExprText-F.Host code k l) p h =
      let q = went (part (E k.0)) (λ q. part (E l.0) >>= host_form code q) p h in
      let r = went (part (E l.0)) (host_form code q.value) p q.further in
      typed (Expr-F.Host code q.value.expr r.value.expr) (exprs.Host code q.value.expr r.value.expr) (host_type q.value.type r.value.type) p (exprs.rolls-Host code q.value.expr r.value.expr)
      (both_steps (value (T q.value.expr)) (value (T r.value.expr)) host_type q.value.type r.value.type (part_typed k q.value q.first) (part_typed l r.value r.first)) r.further

  -- a text, void included
  pub expr_typed : (t : ExprText) → IsTyped t
  expr_typed = ind-ExprText IsTyped (λ x y is. subst (λ z. IsTyped (roll-ExprText z)) is
      (λ p h. layer_typed y p (sym (fold-roll-ExprText Elab (expr_step a at scope) (map-ExprText Kept ExprText (λ (k : Kept). k.0) y)) ∙ h)))

  -- a text that has a value
  pub value_typed_by : (t : ExprText) (p : Elaborated) → elaborated_value a at scope t ≡ Ok p → value (T p.expr) ≡ Ok p.type
  value_typed_by t p h = part_typed (t, expr_typed t) p h
