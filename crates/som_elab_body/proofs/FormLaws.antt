-- Forms by the parts that they are made of.
use Rattle.std.proofs.Common.{◌≡◌, ℕ, Bool, true, false, List, map, Some, None, Result, Err, sym, ap, ◌∙◌, subst}
use Rattle.som_model.specs.declared.key.ClassKey.{ClassKey}
use Rattle.som_model.specs.declared.key.MethodRef.{MethodRef}
use Rattle.som_model.specs.declared.key.ValueType.{ValueType}
use Rattle.som_model.specs.declared.class.Way.TheVariants as ways
use Rattle.som_model.specs.declared.syntax.Expr.{Expr}
use Rattle.som_model.specs.declared.syntax.Expr.TheVariants as exprs
use Rattle.som_model.specs.Class.{Class}
use Rattle.som_model.specs.Steps.{◌>>=◌}
use Rattle.som_model.specs.Typing.{ClassFacts, CodePlace, ExprType, all_fit, needs, there, cast_type, class_type, isa_type, named_call_type, new_type, offset_call_type, parent_call_type, parents_call_type, proxy_type}
use Rattle.som_verify_forms.specs.declared.kind.Kind.{Kind}
use Rattle.som_verify_forms.specs.declared.code_place.TypeFault.{TypeFault}
use Rattle.som_verify_forms.specs.Kinds.{kind_at}
use Rattle.som_elab_body.specs.declared.typed_expr.TypedExpr.{TypedExpr}
use Rattle.som_elab_body.specs.declared.parts.Parts.{Parts}
use Rattle.som_elab_body.specs.Methods.{Method, method_for, method_of, own_method, parent_place}
use Rattle.som_elab_body.specs.Expressions.{Among, Elab, Elaborated, call_form, called_by, cast_form, class_form, class_named, facts_among, formed, isa_form, new_form, parent_form, parents_form, proxy_form, types_of}
use Rattle.som_elab_body.specs.Code.{Makes}
use Rattle.som_elab_body.specs.Forms.{AreParts, dispatch_by, lookup_by, offset_by, parent_by, parent_from, parents_by, parts_at}
use Rattle.som_elab_body.proofs.PartLaws.{types_back, with_parts}

-- ---- classes that are named

module _ (cs : List Class) (a : Among) (name : List ℕ) (k : ClassKey) (r : Result TypedExpr TypeFault) (is : k ≡ class_named a name) where
  pub new_made : Makes cs (formed (exprs.New k) (new_type (facts_among a) k)) r → Makes cs (new_form a name) r
  new_made m = subst (λ z. Makes cs (formed (exprs.New z) (new_type (facts_among a) z)) r) is m

  pub class_made : Makes cs (formed (exprs.Class k) (class_type (facts_among a) k)) r → Makes cs (class_form a name) r
  class_made m = subst (λ z. Makes cs (formed (exprs.Class z) (class_type (facts_among a) z)) r) is m

  module _ (p : Elaborated) (x : Expr) (of : x ≡ p.expr) where
    pub cast_made : Makes cs (formed (exprs.Cast k x) (cast_type (facts_among a) k p.type)) r → Makes cs (cast_form a name p) r
    cast_made m =
        subst (λ z. Makes cs (formed (exprs.Cast z p.expr) (cast_type (facts_among a) z p.type)) r) is
        (subst (λ z. Makes cs (formed (exprs.Cast k z) (cast_type (facts_among a) k p.type)) r) of m)

    pub isa_made : Makes cs (formed (exprs.Isa k x) (isa_type (facts_among a) k p.type)) r → Makes cs (isa_form a name p) r
    isa_made m =
        subst (λ z. Makes cs (formed (exprs.Isa z p.expr) (isa_type (facts_among a) z p.type)) r) is
        (subst (λ z. Makes cs (formed (exprs.Isa k z) (isa_type (facts_among a) k p.type)) r) of m)

    pub proxy_made : Makes cs (formed (exprs.Proxy k x) (proxy_type (facts_among a) k p.type)) r → Makes cs (proxy_form a name p) r
    proxy_made m =
        subst (λ z. Makes cs (formed (exprs.Proxy z p.expr) (proxy_type (facts_among a) z p.type)) r) is
        (subst (λ z. Makes cs (formed (exprs.Proxy k z) (proxy_type (facts_among a) k p.type)) r) of m)

-- ---- calls

module _ (cs : List Class) (w : ClassFacts) (args : Parts) (ks : List Kind) (r : Result TypedExpr TypeFault) (are : AreParts cs args) (kinds : ks ≡ args.kinds.items) where
  by_kinds : (F : List ExprType → Elab) → Makes cs (F (map (kind_at cs) ks)) r → Makes cs (F (map (kind_at cs) args.kinds.items)) r
  by_kinds F m = subst (λ z. Makes cs (F (map (kind_at cs) z)) r) kinds m

  pub offset_made : (ref method : MethodRef) (on : Elaborated) (x : Expr) → method ≡ ref → x ≡ on.expr
      → Makes cs (formed (exprs.OffsetCall method x args.exprs) (offset_call_type w method on.type (map (kind_at cs) ks))) r → Makes cs (offset_by w ref on (parts_at cs args)) r
  offset_made ref method on x is of m =
      with_parts cs args (λ es ts. formed (exprs.OffsetCall ref on.expr es) (offset_call_type w ref on.type ts)) r are
      (subst (λ z. Makes cs (formed (exprs.OffsetCall z on.expr args.exprs) (offset_call_type w z on.type (map (kind_at cs) args.kinds.items))) r) is
      (subst (λ z. Makes cs (formed (exprs.OffsetCall method z args.exprs) (offset_call_type w method on.type (map (kind_at cs) args.kinds.items))) r) of
      (by_kinds (λ ts. formed (exprs.OffsetCall method x args.exprs) (offset_call_type w method on.type ts)) m)))

  pub lookup_made : (answer : ValueType) (name n : List ℕ) (on : Elaborated) (x : Expr) → n ≡ name → x ≡ on.expr
      → Makes cs (formed (exprs.Lookup answer n x args.exprs) (named_call_type w answer on.type (map (kind_at cs) ks))) r → Makes cs (lookup_by w answer on name (parts_at cs args)) r
  lookup_made answer name n on x is of m =
      with_parts cs args (λ es ts. formed (exprs.Lookup answer name on.expr es) (named_call_type w answer on.type ts)) r are
      (subst (λ z. Makes cs (formed (exprs.Lookup answer z on.expr args.exprs) (named_call_type w answer on.type (map (kind_at cs) args.kinds.items))) r) is
      (subst (λ z. Makes cs (formed (exprs.Lookup answer n z args.exprs) (named_call_type w answer on.type (map (kind_at cs) args.kinds.items))) r) of
      (by_kinds (λ ts. formed (exprs.Lookup answer n x args.exprs) (named_call_type w answer on.type ts)) m)))

  pub dispatch_made : (answer : ValueType) (name n : List ℕ) (on : Elaborated) (x : Expr) → n ≡ name → x ≡ on.expr
      → Makes cs (formed (exprs.Dispatch answer n x args.exprs) (named_call_type w answer on.type (map (kind_at cs) ks))) r → Makes cs (dispatch_by w answer on name (parts_at cs args)) r
  dispatch_made answer name n on x is of m =
      with_parts cs args (λ es ts. formed (exprs.Dispatch answer name on.expr es) (named_call_type w answer on.type ts)) r are
      (subst (λ z. Makes cs (formed (exprs.Dispatch answer z on.expr args.exprs) (named_call_type w answer on.type (map (kind_at cs) args.kinds.items))) r) is
      (subst (λ z. Makes cs (formed (exprs.Dispatch answer n z args.exprs) (named_call_type w answer on.type (map (kind_at cs) args.kinds.items))) r) of
      (by_kinds (λ ts. formed (exprs.Dispatch answer n x args.exprs) (named_call_type w answer on.type ts)) m)))

  pub parent_made : (at : CodePlace) (n : ℕ) (ref method : MethodRef) → method ≡ ref
      → Makes cs (formed (exprs.ParentCall n method args.exprs) (parent_call_type w at n method (map (kind_at cs) ks))) r → Makes cs (parent_by w at n ref (parts_at cs args)) r
  parent_made at n ref method is m =
      with_parts cs args (λ es ts. formed (exprs.ParentCall n ref es) (parent_call_type w at n ref ts)) r are
      (subst (λ z. Makes cs (formed (exprs.ParentCall n z args.exprs) (parent_call_type w at n z (map (kind_at cs) args.kinds.items))) r) is
      (by_kinds (λ ts. formed (exprs.ParentCall n method args.exprs) (parent_call_type w at n method ts)) m))

  pub parents_made : (at : CodePlace) (ref method : MethodRef) → method ≡ ref
      → Makes cs (formed (exprs.ParentsCall method args.exprs) (parents_call_type w at method (map (kind_at cs) ks))) r → Makes cs (parents_by w at ref (parts_at cs args)) r
  parents_made at ref method is m =
      with_parts cs args (λ es ts. formed (exprs.ParentsCall ref es) (parents_call_type w at ref ts)) r are
      (subst (λ z. Makes cs (formed (exprs.ParentsCall z args.exprs) (parents_call_type w at z (map (kind_at cs) args.kinds.items))) r) is
      (by_kinds (λ ts. formed (exprs.ParentsCall method args.exprs) (parents_call_type w at method ts)) m))

  -- a call by name of a method that was declared so asks for arguments that fit
  fit_is : (params qs : List ValueType) (b : Bool) → qs ≡ params → b ≡ all_fit w qs (map (kind_at cs) ks) → b ≡ all_fit w params (types_of (parts_at cs args))
  fit_is params qs b is e =
      e ∙ ap (λ z. all_fit w z (map (kind_at cs) ks)) is
      ∙ ap (λ z. all_fit w params (map (kind_at cs) z)) kinds
      ∙ ap (λ z. all_fit w params z) (sym (types_back cs args.exprs args.kinds.items are.long))

  pub fitting_made : (m : Method) (on : Elaborated) (answer : ValueType) (qs : List ValueType) (b : Bool) → qs ≡ m.sig.params → b ≡ all_fit w qs (map (kind_at cs) ks) → b ≡ true → answer ≡ m.sig.result
      → Makes cs (lookup_by w answer on m.ref.name (parts_at cs args)) r → Makes cs (called_by w on (parts_at cs args) m ways.Lookup) r
  fitting_made m on answer qs b is e holds ans makes =
      subst (λ z. Makes cs (needs 18 z (lookup_by w m.sig.result on m.ref.name (parts_at cs args))) r) (sym holds ∙ fit_is m.sig.params qs b is e)
      (subst (λ z. Makes cs (lookup_by w z on m.ref.name (parts_at cs args)) r) ans makes)

  pub fitting_fails : (m : Method) (on : Elaborated) (qs : List ValueType) (b : Bool) → qs ≡ m.sig.params → b ≡ all_fit w qs (map (kind_at cs) ks) → b ≡ false → called_by w on (parts_at cs args) m ways.Lookup ≡ Err 18
  fitting_fails m on qs b is e fails = ap (λ z. needs 18 z (lookup_by w m.sig.result on m.ref.name (parts_at cs args))) (sym (fit_is m.sig.params qs b is e) ∙ fails)

-- ---- methods that are found

module _ (cs : List Class) (a : Among) where
  abbrev by_way : Elaborated → List Elaborated → Method → Elab
  by_way on ps m = called_by (facts_among a) on ps m m.way

  abbrev by_all : CodePlace → List Elaborated → Method → Elab
  by_all at ps m = parents_by (facts_among a) at m.ref ps

  abbrev by_one : CodePlace → ℕ → List Elaborated → Method → Elab
  by_one at n ps m = parent_by (facts_among a) at n m.ref ps

  pub call_missing : (on : Elaborated) (name : List ℕ) (ps : List Elaborated) → method_for a.classes on.type name ≡ None → call_form a on name ps ≡ Err 16
  call_missing on name ps e = ap (λ o. there 16 o >>= by_way on ps) e

  pub parents_missing : (at : CodePlace) (name : List ℕ) (ps : List Elaborated) → own_method a.classes at.class name ≡ None → parents_form a at name ps ≡ Err 16
  parents_missing at name ps e = ap (λ o. there 16 o >>= by_all at ps) e

  pub method_missing : (at : CodePlace) (k j : ClassKey) (name : List ℕ) (ps : List Elaborated) (n : ℕ) → j ≡ k → method_of a.classes j name ≡ None → parent_from a at k name ps n ≡ Err 16
  method_missing at k j name ps n is e = ap (λ z. parent_from a at z name ps n) (sym is) ∙ ap (λ o. there 16 o >>= by_one at n ps) e

  pub no_parent : (at : CodePlace) (parent name : List ℕ) (k : ClassKey) (ps : List Elaborated) → k ≡ class_named a parent → None ≡ parent_place at.class k → parent_form a at parent name ps ≡ Err 16
  no_parent at parent name k ps is e =
      sym (ap (λ z. there 16 (parent_place at.class z) >>= parent_from a at z name ps) is) ∙ ap (λ o. there 16 o >>= parent_from a at k name ps) (sym e)

  module _ (r : Result TypedExpr TypeFault) where
    pub call_found_is : (on : Elaborated) (name : List ℕ) (ps : List Elaborated) (m : Method) → method_for a.classes on.type name ≡ Some m → Makes cs (called_by (facts_among a) on ps m m.way) r → Makes cs (call_form a on name ps) r
    call_found_is on name ps m e makes = subst (λ o. Makes cs (there 16 o >>= by_way on ps) r) (sym e) makes

    pub parents_found_is : (at : CodePlace) (name : List ℕ) (ps : List Elaborated) (m : Method) → own_method a.classes at.class name ≡ Some m → Makes cs (parents_by (facts_among a) at m.ref ps) r → Makes cs (parents_form a at name ps) r
    parents_found_is at name ps m e makes = subst (λ o. Makes cs (there 16 o >>= by_all at ps) r) (sym e) makes

    pub method_found : (at : CodePlace) (k j : ClassKey) (name : List ℕ) (ps : List Elaborated) (n : ℕ) (m : Method) → j ≡ k → method_of a.classes j name ≡ Some m
        → Makes cs (parent_by (facts_among a) at n m.ref ps) r → Makes cs (parent_from a at k name ps n) r
    method_found at k j name ps n m is e makes =
        subst (λ z. Makes cs (parent_from a at z name ps n) r) is
        (subst (λ o. Makes cs (there 16 o >>= by_one at n ps) r) (sym e) makes)

    pub parent_placed : (at : CodePlace) (parent name : List ℕ) (k : ClassKey) (ps : List Elaborated) (n : ℕ) → k ≡ class_named a parent → Some n ≡ parent_place at.class k
        → Makes cs (parent_from a at k name ps n) r → Makes cs (parent_form a at parent name ps) r
    parent_placed at parent name k ps n is place makes =
        subst (λ z. Makes cs (there 16 (parent_place at.class z) >>= parent_from a at z name ps) r) is
        (subst (λ o. Makes cs (there 16 o >>= parent_from a at k name ps) r) place makes)
