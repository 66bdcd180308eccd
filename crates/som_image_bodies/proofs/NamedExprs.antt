-- Reading an expression, and naming it, is reading it with names.
use Rattle.std.proofs.Common.{◌≡◌, ℕ, ℤ, zero, suc, Bool, true, eqb, List, map, refl, sym, ap, ◌∙◌}
use Rattle.std.specs.Prelude.{nat_lt, ◌||◌}
use Rattle.std.specs.Int.{w8, w16}
use Rattle.som_model.specs.declared.limits.TheConstants.{MAX_PARAMETERS}
use Rattle.som_model.specs.declared.syntax.HostCode.{HostCode}
use Rattle.som_model.specs.declared.syntax.Expr.{Expr}
use Rattle.som_model.specs.declared.syntax.Expr.TheVariants as exprs
use Rattle.som_image_fields.specs.declared.read.Read.{Read}
use Rattle.som_image_fields.specs.declared.kind.WireType.{WireType}
use Rattle.som_image_fields.specs.declared.method.WireMethod.{WireMethod}
use Rattle.som_image_fields.specs.declared.method.Ranges.{Ranges}
use Rattle.som_image_fields.specs.Reading.{number_at, text_at, below_at, kind_at, method_at}
use Rattle.som_image_fields.specs.declared.syntax.WireExpr.{WireExpr, fold-roll-WireExpr}
use Rattle.som_image_fields.specs.declared.syntax.WireExpr.TheOpen.{WireExpr-F}
use Rattle.som_image_fields.specs.declared.syntax.WireExpr.TheVariants as wires
use Rattle.som_image_decode.specs.declared.directory.Directory.{Directory}
use Rattle.som_image_decode.specs.NamedBlocks.{expr_named, expr_named_step}
use Rattle.som_wire.specs.Making.{Reads}
use Rattle.som_wire.specs.Reading.{operator_at, signed_at, truth_at, host_at, args_at, parent_call_after, named_call_after, call_after, pair_after, class_form_after, operation_after, expr_after, expr_at, call_at}
use Rattle.som_image_bodies.specs.Naming.{naming}
use Rattle.som_image_bodies.specs.NamedReading.{new_of, class_of, cast_of, isa_of, proxy_of, offset_call_of, lookup_of, dispatch_of, parent_call_of, parents_call_of, named_args_at, named_parent_call_after, named_lookup_after, named_call_after as calls_after, named_pair_after, named_class_form_after, named_operation_after, named_expr_after, named_expr_at, named_call_at}
use Rattle.som_image_bodies.proofs.Naming.{after, step, either, made, many_named}

module _ (d : Directory) where
  abbrev name : WireExpr → Expr
  name e = expr_named d e

  -- ---- what each form stands for

  is_long : (z : ℤ) → name (wires.Long z) ≡ exprs.Long z
  is_long z = ap name (sym (wires.rolls-Long z)) ∙ fold-roll-WireExpr Expr (expr_named_step d) (WireExpr-F.Long z)

  is_str : (t : List ℕ) → name (wires.Str t) ≡ exprs.Str t
  is_str t = ap name (sym (wires.rolls-Str t)) ∙ fold-roll-WireExpr Expr (expr_named_step d) (WireExpr-F.Str t)

  is_boolean : (b : Bool) → name (wires.Boolean b) ≡ exprs.Boolean b
  is_boolean b = ap name (sym (wires.rolls-Boolean b)) ∙ fold-roll-WireExpr Expr (expr_named_step d) (WireExpr-F.Boolean b)

  is_nil : name wires.Nil ≡ exprs.Nil
  is_nil = ap name (sym wires.rolls-Nil) ∙ fold-roll-WireExpr Expr (expr_named_step d) WireExpr-F.Nil

  is_local : (n : ℕ) → name (wires.Local n) ≡ exprs.Local n
  is_local n = ap name (sym (wires.rolls-Local n)) ∙ fold-roll-WireExpr Expr (expr_named_step d) (WireExpr-F.Local n)

  is_me : name wires.Me ≡ exprs.Me
  is_me = ap name (sym wires.rolls-Me) ∙ fold-roll-WireExpr Expr (expr_named_step d) WireExpr-F.Me

  is_variable : (n : ℕ) → name (wires.Variable n) ≡ exprs.Variable n
  is_variable n = ap name (sym (wires.rolls-Variable n)) ∙ fold-roll-WireExpr Expr (expr_named_step d) (WireExpr-F.Variable n)

  is_unary : (op : ℕ) (e : WireExpr) → name (wires.Unary op e) ≡ exprs.Unary op (name e)
  is_unary op e = ap name (sym (wires.rolls-Unary op e)) ∙ fold-roll-WireExpr Expr (expr_named_step d) (WireExpr-F.Unary op e)

  is_binary : (op : ℕ) (a b : WireExpr) → name (wires.Binary op a b) ≡ exprs.Binary op (name a) (name b)
  is_binary op a b = ap name (sym (wires.rolls-Binary op a b)) ∙ fold-roll-WireExpr Expr (expr_named_step d) (WireExpr-F.Binary op a b)

  is_new : (c : ℕ) → name (wires.New c) ≡ new_of d c
  is_new c = ap name (sym (wires.rolls-New c)) ∙ fold-roll-WireExpr Expr (expr_named_step d) (WireExpr-F.New c)

  is_class : (c : ℕ) → name (wires.Class c) ≡ class_of d c
  is_class c = ap name (sym (wires.rolls-Class c)) ∙ fold-roll-WireExpr Expr (expr_named_step d) (WireExpr-F.Class c)

  is_manager : name wires.Manager ≡ exprs.Manager
  is_manager = ap name (sym wires.rolls-Manager) ∙ fold-roll-WireExpr Expr (expr_named_step d) WireExpr-F.Manager

  is_cast : (c : ℕ) (e : WireExpr) → name (wires.Cast c e) ≡ cast_of d c (name e)
  is_cast c e = ap name (sym (wires.rolls-Cast c e)) ∙ fold-roll-WireExpr Expr (expr_named_step d) (WireExpr-F.Cast c e)

  is_isa : (c : ℕ) (e : WireExpr) → name (wires.Isa c e) ≡ isa_of d c (name e)
  is_isa c e = ap name (sym (wires.rolls-Isa c e)) ∙ fold-roll-WireExpr Expr (expr_named_step d) (WireExpr-F.Isa c e)

  is_proxy : (c : ℕ) (e : WireExpr) → name (wires.Proxy c e) ≡ proxy_of d c (name e)
  is_proxy c e = ap name (sym (wires.rolls-Proxy c e)) ∙ fold-roll-WireExpr Expr (expr_named_step d) (WireExpr-F.Proxy c e)

  is_offset_call : (m : WireMethod) (e : WireExpr) (es : List WireExpr) → name (wires.OffsetCall m e es) ≡ offset_call_of d m (name e) (map name es)
  is_offset_call m e es = ap name (sym (wires.rolls-OffsetCall m e es)) ∙ fold-roll-WireExpr Expr (expr_named_step d) (WireExpr-F.OffsetCall m e es)

  is_lookup : (t : WireType) (n : List ℕ) (e : WireExpr) (es : List WireExpr) → name (wires.Lookup t n e es) ≡ lookup_of d t n (name e) (map name es)
  is_lookup t n e es = ap name (sym (wires.rolls-Lookup t n e es)) ∙ fold-roll-WireExpr Expr (expr_named_step d) (WireExpr-F.Lookup t n e es)

  is_dispatch : (t : WireType) (n : List ℕ) (e : WireExpr) (es : List WireExpr) → name (wires.Dispatch t n e es) ≡ dispatch_of d t n (name e) (map name es)
  is_dispatch t n e es = ap name (sym (wires.rolls-Dispatch t n e es)) ∙ fold-roll-WireExpr Expr (expr_named_step d) (WireExpr-F.Dispatch t n e es)

  is_parent_call : (n : ℕ) (m : WireMethod) (es : List WireExpr) → name (wires.ParentCall n m es) ≡ parent_call_of d n m (map name es)
  is_parent_call n m es = ap name (sym (wires.rolls-ParentCall n m es)) ∙ fold-roll-WireExpr Expr (expr_named_step d) (WireExpr-F.ParentCall n m es)

  is_parents_call : (m : WireMethod) (es : List WireExpr) → name (wires.ParentsCall m es) ≡ parents_call_of d m (map name es)
  is_parents_call m es = ap name (sym (wires.rolls-ParentsCall m es)) ∙ fold-roll-WireExpr Expr (expr_named_step d) (WireExpr-F.ParentsCall m es)

  is_host : (code : HostCode) (a b : WireExpr) → name (wires.Host code a b) ≡ exprs.Host code (name a) (name b)
  is_host code a b = ap name (sym (wires.rolls-Host code a b)) ∙ fold-roll-WireExpr Expr (expr_named_step d) (WireExpr-F.Host code a b)

  -- ---- what follows a tag, where the expressions in it are read with names

  module _ (ranges : Ranges) (inner : Reads WireExpr) (other : Reads Expr) (same : (bytes : List ℕ) (place : ℕ) → naming name (inner bytes place) ≡ other bytes place) (bytes : List ℕ) where
    args : (place : ℕ) → naming (map name) (args_at inner bytes place) ≡ named_args_at other bytes place
    args place = after (map name) (number_at w8 bytes place) _ _ (λ count. either (map name) (nat_lt count.value 0 || nat_lt MAX_PARAMETERS count.value) _ _ _ _ refl (many_named name (inner bytes) (other bytes) (same bytes) count.value count.next))

    module _ (place : ℕ) (tag : Read ℕ) where
      parent_calls : naming name (parent_call_after ranges inner bytes place tag) ≡ named_parent_call_after d ranges other bytes place tag
      parent_calls =
          either name (eqb tag.value 0x32) _ _ _ _ (after name (number_at w8 bytes tag.next) _ _ (λ n. after name (method_at ranges bytes n.next) _ _ (λ m. step name (map name) _ _ _ _ (args m.next) (λ es. made es.next (is_parent_call n.value m.value es.value)))))
          (either name (eqb tag.value 0x33) _ _ _ _ (after name (method_at ranges bytes tag.next) _ _ (λ m. step name (map name) _ _ _ _ (args m.next) (λ es. made es.next (is_parents_call m.value es.value)))) refl)

      lookups : naming name (named_call_after ranges inner bytes place tag) ≡ named_lookup_after d ranges other bytes place tag
      lookups =
          either name (eqb tag.value 0x30) _ _ _ _ (after name (kind_at ranges.classes true bytes tag.next) _ _ (λ t. after name (text_at bytes t.next) _ _ (λ n. step name name _ _ _ _ (same bytes n.next) (λ e. step name (map name) _ _ _ _ (args e.next) (λ es. made es.next (is_lookup t.value n.value e.value es.value))))))
          (either name (eqb tag.value 0x31) _ _ _ _ (after name (kind_at ranges.classes true bytes tag.next) _ _ (λ t. after name (text_at bytes t.next) _ _ (λ n. step name name _ _ _ _ (same bytes n.next) (λ e. step name (map name) _ _ _ _ (args e.next) (λ es. made es.next (is_dispatch t.value n.value e.value es.value))))))
          parent_calls)

      calls : naming name (call_after ranges inner bytes place tag) ≡ calls_after d ranges other bytes place tag
      calls = either name (eqb tag.value 0x2f) _ _ _ _ (after name (method_at ranges bytes tag.next) _ _ (λ m. step name name _ _ _ _ (same bytes m.next) (λ e. step name (map name) _ _ _ _ (args e.next) (λ es. made es.next (is_offset_call m.value e.value es.value))))) lookups

      pairs : naming name (pair_after ranges inner bytes place tag) ≡ named_pair_after d ranges other bytes place tag
      pairs =
          either name (eqb tag.value 0x28) _ _ _ _ (after name (operator_at 14 bytes tag.next) _ _ (λ op. step name name _ _ _ _ (same bytes op.next) (λ a. step name name _ _ _ _ (same bytes a.next) (λ b. made b.next (is_binary op.value a.value b.value)))))
          (either name (eqb tag.value 0x34) _ _ _ _ (after name (host_at bytes tag.next) _ _ (λ code. step name name _ _ _ _ (same bytes code.next) (λ a. step name name _ _ _ _ (same bytes a.next) (λ b. made b.next (is_host code.value a.value b.value))))) calls)

      class_forms : naming name (class_form_after ranges inner bytes place tag) ≡ named_class_form_after d ranges other bytes place tag
      class_forms =
          either name (eqb tag.value 0x2c) _ _ _ _ (after name (below_at ranges.classes bytes tag.next) _ _ (λ c. step name name _ _ _ _ (same bytes c.next) (λ e. made e.next (is_cast c.value e.value))))
          (either name (eqb tag.value 0x2d) _ _ _ _ (after name (below_at ranges.classes bytes tag.next) _ _ (λ c. step name name _ _ _ _ (same bytes c.next) (λ e. made e.next (is_isa c.value e.value))))
          (either name (eqb tag.value 0x2e) _ _ _ _ (after name (below_at ranges.classes bytes tag.next) _ _ (λ c. step name name _ _ _ _ (same bytes c.next) (λ e. made e.next (is_proxy c.value e.value)))) pairs))

      operations : naming name (operation_after ranges inner bytes place tag) ≡ named_operation_after d ranges other bytes place tag
      operations = either name (eqb tag.value 0x27) _ _ _ _ (after name (operator_at 4 bytes tag.next) _ _ (λ op. step name name _ _ _ _ (same bytes op.next) (λ e. made e.next (is_unary op.value e.value)))) class_forms

      forms : naming name (expr_after ranges inner bytes place tag) ≡ named_expr_after d ranges other bytes place tag
      forms =
          either name (eqb tag.value 0x20) _ _ _ _ (after name (signed_at bytes tag.next) _ _ (λ z. made z.next (is_long z.value)))
          (either name (eqb tag.value 0x21) _ _ _ _ (after name (text_at bytes tag.next) _ _ (λ t. made t.next (is_str t.value)))
          (either name (eqb tag.value 0x22) _ _ _ _ (after name (truth_at bytes tag.next) _ _ (λ b. made b.next (is_boolean b.value)))
          (either name (eqb tag.value 0x23) _ _ _ _ (made tag.next is_nil)
          (either name (eqb tag.value 0x24) _ _ _ _ (after name (number_at w16 bytes tag.next) _ _ (λ n. made n.next (is_local n.value)))
          (either name (eqb tag.value 0x25) _ _ _ _ (made tag.next is_me)
          (either name (eqb tag.value 0x26) _ _ _ _ (after name (number_at w8 bytes tag.next) _ _ (λ n. made n.next (is_variable n.value)))
          (either name (eqb tag.value 0x29) _ _ _ _ (after name (below_at ranges.classes bytes tag.next) _ _ (λ c. made c.next (is_new c.value)))
          (either name (eqb tag.value 0x2a) _ _ _ _ (after name (below_at ranges.classes bytes tag.next) _ _ (λ c. made c.next (is_class c.value)))
          (either name (eqb tag.value 0x2b) _ _ _ _ (made tag.next is_manager) operations)))))))))

  -- ---- where so many levels are left

  module _ (ranges : Ranges) where
    pub expr_is : (left : ℕ) (bytes : List ℕ) (place : ℕ) → naming (expr_named d) (expr_at left ranges bytes place) ≡ named_expr_at d left ranges bytes place
    unfolding expr_at named_expr_at
    expr_is zero bytes place = after name (number_at w8 bytes place) _ _ (λ tag. refl)
    expr_is (suc left) bytes place = after name (number_at w8 bytes place) _ _ (λ tag. forms ranges (expr_at left ranges) (named_expr_at d left ranges) (expr_is left) bytes place tag)

    pub call_is : (left : ℕ) (bytes : List ℕ) (place : ℕ) → naming (expr_named d) (call_at left ranges bytes place) ≡ named_call_at d left ranges bytes place
    unfolding call_at named_call_at
    call_is zero bytes place = after name (number_at w8 bytes place) _ _ (λ tag. refl)
    call_is (suc left) bytes place = after name (number_at w8 bytes place) _ _ (λ tag. calls ranges (expr_at left ranges) (named_expr_at d left ranges) (expr_is left) bytes place tag)
