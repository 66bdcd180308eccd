-- Expressions under new keys have the new type, or break the same rule.
use Rattle.std.proofs.Common.{◌≡◌, inl, inr, ℕ, suc, Bool, true, false, not, ◌&&◌, nat_le, nat_lt, ◌==◌, List, [], ◌∷◌, ◌++◌, length, map, slice_get, Option, Some, None, Ok, refl, sym, ap, ◌∙◌, subst}
use Rattle.std.specs.Option.{option_map}
use Rattle.std.proofs.lemmas.Option.{slice_get-map}
use Rattle.som_model.specs.declared.key.ClassKey.{ClassKey}
use Rattle.som_model.specs.declared.key.MethodRef.{MethodRef}
use Rattle.som_model.specs.declared.key.ValueType.{ValueType}
use Rattle.som_model.specs.declared.key.ValueType.TheVariants as types
use Rattle.som_model.specs.declared.syntax.Expr.{Expr, roll-Expr, map-Expr, ind-Expr, fold-roll-Expr}
use Rattle.som_model.specs.declared.syntax.Expr.TheOpen.{Expr-F}
use Rattle.som_model.specs.declared.class.Sig.{Sig}
use Rattle.som_model.specs.declared.class.Variable.{Variable}
use Rattle.som_model.specs.declared.limits.TheConstants.{MAX_PARAMETERS}
use Rattle.som_model.specs.Lists.{Mem, joined}
use Rattle.som_model.specs.Keys.{same_key}
use Rattle.som_model.specs.Steps.{◌>>=◌}
use Rattle.som_model.specs.Class.{Class}
use Rattle.som_model.specs.Kernel.{som_class_mgr, class_mgr_face}
use Rattle.som_model.specs.Named.{Named, AClass, AProxy, sig_names, expr_names, expr_names_step, method_names, type_names, face_names}
use Rattle.som_model.specs.Typing.{ClassFacts, CodePlace, ExprType, Of, PlainNil, Ruled, Typed, needs, there, gives, is_nothing, is_long, is_boolean, is_string, has_text, are_alike, is_class, is_reference, descends_to, fits, all_fit, kind_is_known, value, value_of, values, unary_type, binary_type, host_type, own_variable, self_type, new_type, class_type, cast_type, isa_type, proxy_type, offset_call_type, named_call_type, parent_call_type, parents_call_type, expr_step, expr_type}
use Rattle.som_model_laws.proofs.Members.{mem_left}
use Rattle.som_model_laws.proofs.Lists.{get_mem, mem_map, map_mem}
use Rattle.som_rekey_laws.specs.Rekeying.{ModuleChange, rekey, rekey_type, rekey_sig, rekey_method, rekey_class, rekey_expr, rekey_expr_layer}
use Rattle.som_rekey_laws.specs.Apart.{Names, is_named, IsApart, KeepsKernel}
use Rattle.som_rekey_laws.specs.AlikeFacts.{AreFactsAlike}
use Rattle.som_rekey_laws.proofs.KeysApart.{keys_kept}
use Rattle.som_rekey_laws.proofs.Lists.{map_twice}
use Rattle.som_rekey_laws.proofs.BodiesKept.{kernel_stays, kernel_is_named}
use Rattle.som_rekey_rules.specs.NamesAlone.{AreOf, IsTypeNamed, AreTypesNamed, IsFaceNamed, IsClassNamed, IsPlaceNamed, AreAnswersNamed}
use Rattle.som_rekey_rules.specs.NewTypes.{rekey_place, rekey_expr_type}
use Rattle.som_rekey_rules.proofs.Steps.{Kept, ok_kept, err_kept, needs_kept, if_kept, there_kept, step_kept}
use Rattle.som_rekey_rules.proofs.TypesRekeyed.{left_of, right_of, each_of, none_of, class_of, params_of, result_of, IsAnswerNamed, AreAnswersOf, type_alike, descends_kept, fits_kept, all_fit_kept, kind_kept}

-- ---- what a class of these names has

pub face_of : (names : Names) (c : Class) → IsClassNamed names c → IsFaceNamed names c
face_of names c is = record { key = is.key; named = left_of names (face_names c.decl.face) _ is.named }

pub parent_named : (names : Names) (c : Class) → IsFaceNamed names c → (p : ClassKey) → Mem p c.decl.face.parents → is_named names p ≡ true
parent_named names c is p m = is.named p (mem_left (AClass p) (map AClass c.decl.face.parents) _ (mem_map AClass p c.decl.face.parents m))

pub variable_named : (names : Names) (c : Class) → IsClassNamed names c → (v : Variable) → Mem v c.decl.variables → IsTypeNamed names v.kind
variable_named names c is v m =
    let rest = right_of names (face_names c.decl.face) _ is.named in
    each_of names (λ v. type_names v.kind) c.decl.variables (left_of names _ _ rest) v m

abbrev variable_kind : Option Class → ℕ → Option ValueType
variable_kind None n = None
variable_kind (Some c) n = slice_get (map (λ v. v.kind) c.decl.variables) n

abbrev parent_in : Option Class → ℕ → Option ClassKey
parent_in None n = None
parent_in (Some c) n = slice_get c.decl.face.parents n

abbrev is_proper_for : ClassFacts → Option Class → ClassKey → Bool
is_proper_for w None k = false
is_proper_for w (Some c) k = not (same_key k c.key) && w.is_a c.key k

pub get_kind : (f : ModuleChange) (c : Class) (n : ℕ) → slice_get (map (λ v. v.kind) (rekey_class f c).decl.variables) n ≡ option_map (rekey_type f) (slice_get (map (λ v. v.kind) c.decl.variables) n)
get_kind f c n =
    ap (λ l. slice_get l n) (map_twice (λ (v : Variable). v.kind) _ c.decl.variables ∙ sym (map_twice (rekey_type f) (λ (v : Variable). v.kind) c.decl.variables))
    ∙ slice_get-map (rekey_type f) (map (λ v. v.kind) c.decl.variables) n

variable_kept : (f : ModuleChange) (o : Option Class) (n : ℕ) → variable_kind (option_map (rekey_class f) o) n ≡ option_map (rekey_type f) (variable_kind o n)
variable_kept f None n = refl
variable_kept f (Some c) n = get_kind f c n

parent_kept : (f : ModuleChange) (o : Option Class) (n : ℕ) → parent_in (option_map (rekey_class f) o) n ≡ option_map (rekey f) (parent_in o n)
parent_kept f None n = refl
parent_kept f (Some c) n = slice_get-map (rekey f) c.decl.face.parents n

pub kind_there : (names : Names) (c : Class) → ((v : Variable) → Mem v c.decl.variables → IsTypeNamed names v.kind) → (n : ℕ) (t : ValueType) → slice_get (map (λ v. v.kind) c.decl.variables) n ≡ Some t → IsTypeNamed names t
kind_there names c are n t e =
    let m = map_mem (λ (v : Variable). v.kind) t c.decl.variables (get_mem (map (λ v. v.kind) c.decl.variables) n t e) in
    subst (IsTypeNamed names) (sym m.2) (are m.0 m.1)

variable_there : (names : Names) (o : Option Class) → ((c : Class) → o ≡ Some c → IsClassNamed names c) → (n : ℕ) (t : ValueType) → variable_kind o n ≡ Some t → IsTypeNamed names t
variable_there names None is n t e = absurd (let z = e in cc)
variable_there names (Some c) is n t e = kind_there names c (variable_named names c (is c refl)) n t e

parent_there : (names : Names) (o : Option Class) → ((c : Class) → o ≡ Some c → IsClassNamed names c) → (n : ℕ) (p : ClassKey) → parent_in o n ≡ Some p → is_named names p ≡ true
parent_there names None is n p e = absurd (let z = e in cc)
parent_there names (Some c) is n p e = parent_named names c (face_of names c (is c refl)) p (get_mem c.decl.face.parents n p e)

module _ (f : ModuleChange) (names : Names) (kk : KeepsKernel f names) (apart : IsApart f names)
    (old new : ClassFacts) (like : AreFactsAlike f names old new) (told : AreAnswersNamed names old)
    (at : CodePlace) (stands : IsPlaceNamed names at) where
  abbrev rk : ExprType → ExprType
  rk = rekey_expr_type f

  abbrev N : ExprType → Type 0
  N = IsAnswerNamed names

  abbrev NS : List ExprType → Type 0
  NS = AreAnswersOf names

  -- an expression's type and its type under new keys
  abbrev KeptType : Typed → Typed → Type 0
  KeptType = Kept rk N

  abbrev there_place : CodePlace
  there_place = rekey_place f at

  -- ---- forms, by the types of their parts

  gives_kept : (b c : Bool) (kind : ValueType) → c ≡ b → IsTypeNamed names kind → KeptType (gives b kind) (gives c (rekey_type f kind))
  gives_kept b c kind e n = needs_kept rk N 17 b c (Ok (Of kind)) (Ok (Of (rekey_type f kind))) e (ok_kept rk N (Of kind) (Of (rekey_type f kind)) refl n)

  value_of_kept : (t : ExprType) → N t → KeptType (value_of t) (value_of (rk t))
  value_of_kept t n = needs_kept rk N 20 (not (is_nothing t)) (not (is_nothing (rk t))) (Ok t) (Ok (rk t)) (ap not (type_alike f is_nothing (λ a b. refl) t)) (ok_kept rk N t (rk t) refl n)

  pub value_kept : (x y : Typed) → KeptType x y → KeptType (value x) (value y)
  value_kept x y k = step_kept rk N rk N x y value_of value_of k value_of_kept

  unary_kept : (op : ℕ) (t : ExprType) → KeptType (unary_type op t) (unary_type op (rk t))
  unary_kept op t =
      if_kept rk N (op == 0) _ _ _ _ (gives_kept (is_long t) (is_long (rk t)) types.Long (type_alike f is_long (λ a b. refl) t) (none_of names))
      (if_kept rk N (op == 1) _ _ _ _ (gives_kept (is_boolean t) (is_boolean (rk t)) types.Boolean (type_alike f is_boolean (λ a b. refl) t) (none_of names))
      (if_kept rk N (op == 2) _ _ _ _ (gives_kept (is_string t) (is_string (rk t)) types.Long (type_alike f is_string (λ a b. refl) t) (none_of names))
      (if_kept rk N (op == 3) _ _ _ _ (gives_kept (has_text t) (has_text (rk t)) types.Str (type_alike f has_text (λ a b. refl) t) (none_of names))
      (err_kept rk N 17))))

  two_alike : (g : ExprType → ExprType → Bool) → ((a b : ClassKey) (t : ExprType) → g (Of (types.Class a)) t ≡ g (Of (types.Class b)) t) → ((a b : ClassKey) (s : ExprType) → g s (Of (types.Class a)) ≡ g s (Of (types.Class b)))
      → (s t : ExprType) → g (rk s) (rk t) ≡ g s t
  two_alike g left right s t = type_alike f (λ z. g z (rk t)) (λ a b. left a b (rk t)) s ∙ type_alike f (g s) (λ a b. right a b s) t

  binary_kept : (op : ℕ) (s t : ExprType) → KeptType (binary_type op s t) (binary_type op (rk s) (rk t))
  binary_kept op s t =
      if_kept rk N (nat_lt op 5) _ _ _ _ (gives_kept (is_long s && is_long t) _ types.Long (two_alike (λ s t. is_long s && is_long t) (λ a b t. refl) (λ a b s. refl) s t) (none_of names))
      (if_kept rk N (nat_lt op 7) _ _ _ _ (gives_kept (are_alike s t) _ types.Boolean (two_alike are_alike (λ a b t. refl) (λ a b s. refl) s t) (none_of names))
      (if_kept rk N (nat_lt op 11) _ _ _ _ (gives_kept (is_long s && is_long t) _ types.Boolean (two_alike (λ s t. is_long s && is_long t) (λ a b t. refl) (λ a b s. refl) s t) (none_of names))
      (if_kept rk N (nat_lt op 13) _ _ _ _ (gives_kept (is_boolean s && is_boolean t) _ types.Boolean (two_alike (λ s t. is_boolean s && is_boolean t) (λ a b t. refl) (λ a b s. refl) s t) (none_of names))
      (if_kept rk N (op == 13) _ _ _ _ (gives_kept (is_string s && is_string t) _ types.Str (two_alike (λ s t. is_string s && is_string t) (λ a b t. refl) (λ a b s. refl) s t) (none_of names))
      (err_kept rk N 17)))))

  host_kept : (s t : ExprType) → KeptType (host_type s t) (host_type (rk s) (rk t))
  host_kept s t = gives_kept (is_long s && is_long t) _ types.Long (two_alike (λ s t. is_long s && is_long t) (λ a b t. refl) (λ a b s. refl) s t) (none_of names)

  new_kept : (k : ClassKey) → is_named names k ≡ true → KeptType (new_type old k) (new_type new (rekey f k))
  new_kept k n = needs_kept rk N 16 (old.is_known k) (new.is_known (rekey f k)) _ _ (like.is_known k n) (ok_kept rk N (Of (types.Class k)) _ refl (class_of names k n))

  class_kept : (k : ClassKey) → is_named names k ≡ true → KeptType (class_type old k) (class_type new (rekey f k))
  class_kept k n =
      needs_kept rk N 16 (old.is_known k) (new.is_known (rekey f k)) _ _ (like.is_known k n)
      (ok_kept rk N (Of (types.Class (old.class_object k))) _ (ap (λ z. Of (types.Class z)) (like.class_object k n)) (class_of names (old.class_object k) (told.class_object k n)))

  cast_kept : (k : ClassKey) (t : ExprType) → is_named names k ≡ true → KeptType (cast_type old k t) (cast_type new (rekey f k) (rk t))
  cast_kept k t n =
      needs_kept rk N 16 (old.is_known k) (new.is_known (rekey f k)) _ _ (like.is_known k n)
      (gives_kept (is_reference t) (is_reference (rk t)) (types.Class k) (type_alike f is_reference (λ a b. refl) t) (class_of names k n))

  isa_kept : (k : ClassKey) (t : ExprType) → is_named names k ≡ true → KeptType (isa_type old k t) (isa_type new (rekey f k) (rk t))
  isa_kept k t n =
      needs_kept rk N 16 (old.is_known k) (new.is_known (rekey f k)) _ _ (like.is_known k n)
      (gives_kept (is_reference t) (is_reference (rk t)) types.Boolean (type_alike f is_reference (λ a b. refl) t) (none_of names))

  proxy_kept : (k : ClassKey) (t : ExprType) → is_named names k ≡ true → N t → KeptType (proxy_type old k t) (proxy_type new (rekey f k) (rk t))
  proxy_kept k t n l =
      needs_kept rk N 16 (old.is_known k) (new.is_known (rekey f k)) _ _ (like.is_known k n)
      (gives_kept (fits old (types.Class k) t) (fits new (types.Class (rekey f k)) (rk t)) (types.Class k) (fits_kept f names old new like (types.Class k) t (class_of names k n) l) (class_of names k n))

  -- ---- calls

  abbrev S : Sig → Type 0
  S s = AreOf names (sig_names s)

  abbrev signature_of : ClassFacts → MethodRef → Ruled Sig
  signature_of w r = there 16 (w.signature r)

  signature_kept : (r : MethodRef) → is_named names r.class ≡ true → Kept (rekey_sig f) S (signature_of old r) (signature_of new (rekey_method f r))
  signature_kept r n = there_kept (rekey_sig f) S 16 (old.signature r) (new.signature (rekey_method f r)) (like.signature r n) (λ s e. told.signature r s n e)

  -- the arguments of a call, and what it gives
  abbrev passed : ClassFacts → Sig → List ExprType → Typed → Typed
  passed w s ts given = needs 18 (all_fit w s.params ts) given

  answer_kept : (s : Sig) → S s → KeptType (Ok (Of s.result)) (Ok (Of (rekey_type f s.result)))
  answer_kept s n = ok_kept rk N (Of s.result) _ refl (result_of names s n)

  passed_kept : (s : Sig) (ts : List ExprType) (x y : Typed) → S s → NS ts → KeptType x y → KeptType (passed old s ts x) (passed new (rekey_sig f s) (map rk ts) y)
  passed_kept s ts x y n l k = needs_kept rk N 18 (all_fit old s.params ts) _ x y (all_fit_kept f names old new like s.params ts (params_of names s n) l) k

  offset_kept : (r : MethodRef) (t : ExprType) (ts : List ExprType) → is_named names r.class ≡ true → N t → NS ts → KeptType (offset_call_type old r t ts) (offset_call_type new (rekey_method f r) (rk t) (map rk ts))
  offset_kept r t ts n l ls =
      step_kept rk N (rekey_sig f) S (signature_of old r) (signature_of new (rekey_method f r)) _ _ (signature_kept r n) (λ s is.
      needs_kept rk N 17 (descends_to old r.class t) (descends_to new (rekey f r.class) (rk t)) _ _ (descends_kept f names old new like r.class t n l)
      (passed_kept s ts _ _ is ls (answer_kept s is)))

  length_kept : (ts : List ExprType) → length (map rk ts) ≡ length ts
  length_kept [] = refl
  length_kept (t ∷ ts) = ap suc (length_kept ts)

  named_kept : (kind : ValueType) (t : ExprType) (ts : List ExprType) → IsTypeNamed names kind → KeptType (named_call_type old kind t ts) (named_call_type new (rekey_type f kind) (rk t) (map rk ts))
  named_kept kind t ts n =
      needs_kept rk N 16 (kind_is_known old kind) (kind_is_known new (rekey_type f kind)) _ _ (kind_kept f names old new like kind n)
      (needs_kept rk N 17 (is_class t) (is_class (rk t)) _ _ (type_alike f is_class (λ a b. refl) t)
      (needs_kept rk N 18 (nat_le (length ts) MAX_PARAMETERS) (nat_le (length (map rk ts)) MAX_PARAMETERS) _ _ (ap (λ m. nat_le m MAX_PARAMETERS) (length_kept ts))
      (ok_kept rk N (Of kind) _ refl n)))

  abbrev P : ClassKey → Type 0
  P k = is_named names k ≡ true

  parent_call_kept : (m : ℕ) (r : MethodRef) (ts : List ExprType) → is_named names r.class ≡ true → NS ts → KeptType (parent_call_type old at m r ts) (parent_call_type new there_place m (rekey_method f r) (map rk ts))
  parent_call_kept m r ts n ls =
      step_kept rk N (rekey f) P (there 16 (parent_in at.class m)) (there 16 (parent_in there_place.class m)) _ _
      (there_kept (rekey f) P 16 (parent_in at.class m) (parent_in there_place.class m) (parent_kept f at.class m) (parent_there names at.class stands.class_ m)) (λ p l.
      step_kept rk N (rekey_sig f) S (signature_of old r) (signature_of new (rekey_method f r)) _ _ (signature_kept r n) (λ s is.
      needs_kept rk N 17 (old.is_a p r.class) (new.is_a (rekey f p) (rekey f r.class)) _ _ (like.is_a p r.class l n)
      (passed_kept s ts _ _ is ls (answer_kept s is))))

  proper_kept : (o : Option Class) (k : ClassKey) → ((c : Class) → o ≡ Some c → IsClassNamed names c) → is_named names k ≡ true → is_proper_for new (option_map (rekey_class f) o) (rekey f k) ≡ is_proper_for old o k
  proper_kept None k is n = refl
  proper_kept (Some c) k is n =
      ap (λ b. not b && new.is_a (rekey f c.key) (rekey f k)) (keys_kept f names apart k c.key n (is c refl).key)
      ∙ ap (λ b. not (same_key k c.key) && b) (like.is_a c.key k (is c refl).key n)

  void_kept : (s : Sig) (r : MethodRef) → is_named names r.class ≡ true → (is_nothing (Of (rekey_type f s.result)) && is_proper_for new there_place.class (new.owner (rekey_method f r)).class) ≡ (is_nothing (Of s.result) && is_proper_for old at.class (old.owner r).class)
  void_kept s r n =
      ap (λ b. b && is_proper_for new there_place.class (new.owner (rekey_method f r)).class) (type_alike f is_nothing (λ a b. refl) (Of s.result))
      ∙ ap (λ (m : MethodRef). is_nothing (Of s.result) && is_proper_for new there_place.class m.class) (like.owner r n)
      ∙ ap (λ b. is_nothing (Of s.result) && b) (proper_kept at.class (old.owner r).class stands.class_ (told.owner r n))

  parents_call_kept : (r : MethodRef) (ts : List ExprType) → is_named names r.class ≡ true → NS ts → KeptType (parents_call_type old at r ts) (parents_call_type new there_place (rekey_method f r) (map rk ts))
  parents_call_kept r ts n ls =
      step_kept rk N (rekey_sig f) S (signature_of old r) (signature_of new (rekey_method f r)) _ _ (signature_kept r n) (λ s is.
      passed_kept s ts _ _ is ls
      (needs_kept rk N 20 (is_nothing (Of s.result) && is_proper_for old at.class (old.owner r).class) _ _ _ (void_kept s r n) (answer_kept s is)))

  -- ---- variables and self

  pub own_kept : (n : ℕ) → Kept (rekey_type f) (IsTypeNamed names) (own_variable at n) (own_variable there_place n)
  own_kept n = there_kept (rekey_type f) (IsTypeNamed names) 16 (variable_kind at.class n) (variable_kind there_place.class n) (variable_kept f at.class n) (variable_there names at.class stands.class_ n)

  of_kind : (t : ValueType) → IsTypeNamed names t → KeptType (Ok (Of t)) (Ok (Of (rekey_type f t)))
  of_kind t n = ok_kept rk N (Of t) _ refl n

  self_kept : KeptType (self_type at) (self_type there_place)
  self_kept =
      step_kept rk N (rekey_class f) (IsClassNamed names) (there 20 at.class) (there 20 there_place.class) _ _
      (there_kept (rekey_class f) (IsClassNamed names) 20 at.class there_place.class refl stands.class_)
      (λ c is. of_kind (types.Class c.key) (class_of names c.key is.key))

  manager_kept : KeptType (Ok (Of (types.Class som_class_mgr))) (Ok (Of (types.Class som_class_mgr)))
  manager_kept =
      let n = kk.here class_mgr_face (inr (inr (inl refl))) in
      ok_kept rk N (Of (types.Class som_class_mgr)) _ (ap (λ k. Of (types.Class k)) (sym (kernel_stays f names kk class_mgr_face.name n)))
      (class_of names som_class_mgr (kernel_is_named f names kk class_mgr_face.name n))

  module _ (scope : List ValueType) (scoped : AreTypesNamed names scope) where
    abbrev new_scope : List ValueType
    new_scope = map (rekey_type f) scope

    abbrev T : Expr → Typed
    T = expr_type old at scope

    abbrev V : Expr → Typed
    V = expr_type new there_place new_scope

    abbrev R : Expr → Expr
    R = rekey_expr f

    -- what an expression comes to under new keys, if it names no other classes
    abbrev Good : Expr → Type 0
    Good e = AreOf names (expr_names e) → KeptType (T e) (V (R e))

    abbrev Item : Type 0
    Item = (e : Expr) × Good e

    abbrev exprs : List Item → List Expr
    exprs = map (λ (k : Item). k.0)

    abbrev bare : Expr-F Item → Expr-F Expr
    bare = map-Expr Item Expr (λ (k : Item). k.0)

    scope_kept : (n : ℕ) → Kept (rekey_type f) (IsTypeNamed names) (there 16 (slice_get scope n)) (there 16 (slice_get new_scope n))
    scope_kept n = there_kept (rekey_type f) (IsTypeNamed names) 16 (slice_get scope n) (slice_get new_scope n) (slice_get-map (rekey_type f) scope n) (λ t e. scoped t (get_mem scope n t e))

    part : (k : Item) → AreOf names (expr_names k.0) → KeptType (value (T k.0)) (value (V (R k.0)))
    part k n = value_kept (T k.0) (V (R k.0)) (k.1 n)

    one_more : (t : ExprType) (ts : List ExprType) → N t → NS ts → NS (t ∷ ts)
    one_more t ts n ns x (inl e) = subst N (sym e) n
    one_more t ts n ns x (inr m) = ns x m

    args : (ks : List Item) → AreOf names (joined (map expr_names (exprs ks))) → Kept (map rk) NS (values (map T (exprs ks))) (values (map V (map R (exprs ks))))
    args [] n = ok_kept (map rk) NS [] [] refl (λ t m. absurd m)
    args (k ∷ ks) n =
        step_kept (map rk) NS rk N (value (T k.0)) (value (V (R k.0))) _ _ (part k (left_of names (expr_names k.0) (joined (map expr_names (exprs ks))) n)) (λ t p.
        step_kept (map rk) NS (map rk) NS (values (map T (exprs ks))) (values (map V (map R (exprs ks)))) _ _ (args ks (right_of names (expr_names k.0) (joined (map expr_names (exprs ks))) n)) (λ ts ps.
        ok_kept (map rk) NS (t ∷ ts) _ refl (one_more t ts p ps)))

    -- a part, and what is made of its type
    of_part : (k : Item) (u v : ExprType → Typed) → AreOf names (expr_names k.0) → ((t : ExprType) → N t → KeptType (u t) (v (rk t))) → KeptType (value (T k.0) >>= u) (value (V (R k.0)) >>= v)
    of_part k u v n next = step_kept rk N rk N (value (T k.0)) (value (V (R k.0))) u v (part k n) next

    of_args : (ks : List Item) (u v : List ExprType → Typed) → AreOf names (joined (map expr_names (exprs ks))) → ((ts : List ExprType) → NS ts → KeptType (u ts) (v (map rk ts)))
        → KeptType (values (map T (exprs ks)) >>= u) (values (map V (map R (exprs ks))) >>= v)
    of_args ks u v n next = step_kept rk N (map rk) NS (values (map T (exprs ks))) (values (map V (map R (exprs ks)))) u v (args ks n) next

    abbrev IsLayerKept : Expr-F Expr → Type 0
    IsLayerKept l = AreOf names (expr_names_step (map-Expr Expr (List Named) expr_names l))
        → KeptType (expr_step old at scope (map-Expr Expr Typed T l)) (expr_step new there_place new_scope (map-Expr Expr Typed V (rekey_expr_layer f (map-Expr Expr Expr R l))))

    tail_of : (n : Named) (ns : List Named) → AreOf names (n ∷ ns) → AreOf names ns
    tail_of n ns h x m = h x (inr m)

    -- the names of a call on an object
    call_parts : (ns : List Named) (k : Item) (ks : List Item) → AreOf names (ns ++ (expr_names k.0 ++ joined (map expr_names (exprs ks)))) → AreOf names ns × AreOf names (expr_names k.0) × AreOf names (joined (map expr_names (exprs ks)))
    call_parts ns k ks h =
        let rest = right_of names ns (expr_names k.0 ++ joined (map expr_names (exprs ks))) h in
        (left_of names ns (expr_names k.0 ++ joined (map expr_names (exprs ks))) h, left_of names (expr_names k.0) (joined (map expr_names (exprs ks))) rest, right_of names (expr_names k.0) (joined (map expr_names (exprs ks))) rest)

    layer : (y : Expr-F Item) → IsLayerKept (bare y)
    layer (Expr-F.Long z) n = of_kind types.Long (none_of names)
    layer (Expr-F.Str z) n = of_kind types.Str (none_of names)
    layer (Expr-F.Boolean b) n = of_kind types.Boolean (none_of names)
    layer Expr-F.Nil n = ok_kept rk N PlainNil PlainNil refl (none_of names)
    layer (Expr-F.Local i) n = step_kept rk N (rekey_type f) (IsTypeNamed names) (there 16 (slice_get scope i)) (there 16 (slice_get new_scope i)) _ _ (scope_kept i) of_kind
    layer Expr-F.Me n = self_kept
    layer (Expr-F.Variable i) n = step_kept rk N (rekey_type f) (IsTypeNamed names) (own_variable at i) (own_variable there_place i) _ _ (own_kept i) of_kind
    layer (Expr-F.Unary op k) n = of_part k (unary_type op) (unary_type op) n (λ t p. unary_kept op t)
    layer (Expr-F.Binary op k l) n =
        of_part k (λ s. value (T l.0) >>= binary_type op s) (λ s. value (V (R l.0)) >>= binary_type op s) (left_of names (expr_names k.0) (expr_names l.0) n) (λ s p.
        of_part l (binary_type op s) (binary_type op (rk s)) (right_of names (expr_names k.0) (expr_names l.0) n) (λ t q. binary_kept op s t))
    layer (Expr-F.New k) n = new_kept k (n k (inl refl))
    layer (Expr-F.Class k) n = class_kept k (n k (inl refl))
    layer Expr-F.Manager n = manager_kept
    layer (Expr-F.Cast k e) n = of_part e (cast_type old k) (cast_type new (rekey f k)) (tail_of (AClass k) (expr_names e.0) n) (λ t p. cast_kept k t (n k (inl refl)))
    layer (Expr-F.Isa k e) n = of_part e (isa_type old k) (isa_type new (rekey f k)) (tail_of (AClass k) (expr_names e.0) n) (λ t p. isa_kept k t (n k (inl refl)))
    layer (Expr-F.Proxy k e) n =
        of_part e (proxy_type old k) (proxy_type new (rekey f k)) (tail_of (AProxy k) (expr_names e.0) (tail_of (AClass k) (AProxy k ∷ expr_names e.0) n)) (λ t p. proxy_kept k t (n k (inl refl)) p)
    layer (Expr-F.OffsetCall r e es) n =
        let c = call_parts (method_names r) e es n in
        of_part e (λ t. values (map T (exprs es)) >>= offset_call_type old r t) (λ t. values (map V (map R (exprs es))) >>= offset_call_type new (rekey_method f r) t) c.1 (λ t p.
        of_args es (offset_call_type old r t) (offset_call_type new (rekey_method f r) (rk t)) c.2 (λ ts ps. offset_kept r t ts (c.0 r.class (inl refl)) p ps))
    layer (Expr-F.Lookup kind name e es) n =
        let c = call_parts (type_names kind) e es n in
        of_part e (λ t. values (map T (exprs es)) >>= named_call_type old kind t) (λ t. values (map V (map R (exprs es))) >>= named_call_type new (rekey_type f kind) t) c.1 (λ t p.
        of_args es (named_call_type old kind t) (named_call_type new (rekey_type f kind) (rk t)) c.2 (λ ts ps. named_kept kind t ts c.0))
    layer (Expr-F.Dispatch kind name e es) n =
        let c = call_parts (type_names kind) e es n in
        of_part e (λ t. values (map T (exprs es)) >>= named_call_type old kind t) (λ t. values (map V (map R (exprs es))) >>= named_call_type new (rekey_type f kind) t) c.1 (λ t p.
        of_args es (named_call_type old kind t) (named_call_type new (rekey_type f kind) (rk t)) c.2 (λ ts ps. named_kept kind t ts c.0))
    layer (Expr-F.ParentCall i r es) n =
        of_args es (parent_call_type old at i r) (parent_call_type new there_place i (rekey_method f r)) (right_of names (method_names r) (joined (map expr_names (exprs es))) n) (λ ts ps. parent_call_kept i r ts (n r.class (inl refl)) ps)
    layer (Expr-F.ParentsCall r es) n =
        of_args es (parents_call_type old at r) (parents_call_type new there_place (rekey_method f r)) (right_of names (method_names r) (joined (map expr_names (exprs es))) n) (λ ts ps. parents_call_kept r ts (n r.class (inl refl)) ps)
    layer (Expr-F.Host code k l) n =
        of_part k (λ s. value (T l.0) >>= host_type s) (λ s. value (V (R l.0)) >>= host_type s) (left_of names (expr_names k.0) (expr_names l.0) n) (λ s p.
        of_part l (host_type s) (host_type (rk s)) (right_of names (expr_names k.0) (expr_names l.0) n) (λ t q. host_kept s t))

    rolled : (l : Expr-F Expr) → IsLayerKept l → Good (roll-Expr l)
    rolled l k n =
        let there_is : V (R (roll-Expr l)) ≡ expr_step new there_place new_scope (map-Expr Expr Typed V (rekey_expr_layer f (map-Expr Expr Expr R l))) =
        ap V (fold-roll-Expr Expr (λ x. roll-Expr (rekey_expr_layer f x)) l)
        ∙ fold-roll-Expr Typed (expr_step new there_place new_scope) (rekey_expr_layer f (map-Expr Expr Expr R l)) in
        let h = k (subst (AreOf names) (fold-roll-Expr (List Named) expr_names_step l) n) in
        subst (λ z. KeptType z (V (R (roll-Expr l)))) (sym (fold-roll-Expr Typed (expr_step old at scope) l))
        (subst (λ z. KeptType (expr_step old at scope (map-Expr Expr Typed T l)) z) (sym there_is) h)

    pub expr_kept : (e : Expr) → AreOf names (expr_names e) → KeptType (T e) (V (R e))
    expr_kept = ind-Expr Good (λ x y is. subst (λ z. Good (roll-Expr z)) is (rolled (bare y) (layer y)))
