-- No release with the new interface binds a client that shows a breach of a class which that interface still has, by the client's own class.
use Rattle.std.proofs.Common.{◌≡◌, ℕ, ◌+◌, inl, inr, true, false, not, ◌&&◌, List, [], ◌∷◌, ◌++◌, length, map, Option, Some, None, Ok, slice_get, refl, sym, ap, ◌∙◌, subst, arith, true≢false}
use Rattle.std.specs.Prelude.{is_some, codes}
use Rattle.std.specs.Str.{bytes_eq}
use Rattle.som_model.specs.declared.key.Module.TheVariants as modules
use Rattle.som_model.specs.declared.key.ClassKey.{ClassKey}
use Rattle.som_model.specs.declared.key.ClassKey.TheVariants as keys
use Rattle.som_model.specs.declared.key.MethodRef.{MethodRef}
use Rattle.som_model.specs.declared.key.ValueType.{ValueType}
use Rattle.som_model.specs.declared.key.ValueType.TheVariants as types
use Rattle.som_model.specs.declared.syntax.Expr.{Expr}
use Rattle.som_model.specs.declared.syntax.Expr.TheVariants as exprs
use Rattle.som_model.specs.declared.syntax.Stmt.{Stmt}
use Rattle.som_model.specs.declared.syntax.Stmt.TheVariants as stmts
use Rattle.som_model.specs.declared.class.Sig.{Sig}
use Rattle.som_model.specs.declared.class.Entry.TheVariants as entries
use Rattle.som_model.specs.declared.class.Variable.{Variable}
use Rattle.som_model.specs.declared.class.Override.{Override}
use Rattle.som_model.specs.declared.class.ClassFace.{ClassFace}
use Rattle.som_model.specs.declared.class.ClassDecl.{ClassDecl}
use Rattle.som_model.specs.declared.program.Interface.{Interface}
use Rattle.som_model.specs.declared.program.Release.{Release}
use Rattle.som_model.specs.Lists.{Mem, every}
use Rattle.som_model.specs.Keys.{same_key}
use Rattle.som_model.specs.Same.{same_type}
use Rattle.som_model.specs.Steps.{◌>>=◌}
use Rattle.som_model.specs.Blocks.{is_call}
use Rattle.som_model.specs.Ancestors.{Descends}
use Rattle.som_model.specs.Class.{Class, class_in, entry_name, interface_of}
use Rattle.som_model.specs.Classes.{class_at, hierarchy, interface_classes, is_a, library_classes}
use Rattle.som_model.specs.Kernel.{kernel}
use Rattle.som_model.specs.Metaclass.{meta}
use Rattle.som_model.specs.Owner.{owner, sig_of}
use Rattle.som_model.specs.Images.{slot_in}
use Rattle.som_model.specs.Loads.{IsOrdered, keys_of}
use Rattle.som_model.specs.Named.{AClass, AMethod}
use Rattle.som_model.specs.Rules.{breach, is_known, is_value_type, is_void}
use Rattle.som_model.specs.Typing.{ClassFacts, CodePlace, ExprType, Of, all_fit, descends_to, expr_type, fits, in_body, is_nothing, needs, offset_call_type, own_variable, running_facts, there as asked, value, values}
use Rattle.som_model.specs.TypedBlocks.{Scope, block_scope, stmt_scope, value_return, variable_set}
use Rattle.som_model.specs.Conforming.{body_breach, class_typed_by, override_breach_by}
use Rattle.som_model.specs.Compatible.{order_of, release_of, signature}
use Rattle.som_model.proofs.KeyLaws.{both, exact_bytes, exact_keys}
use Rattle.som_model.proofs.StepLaws.{found as was_found, held, same_ok, went}
use Rattle.som_model_laws.specs.Metaclasses.{IsDeclared}
use Rattle.som_model_laws.proofs.Lists.{doubles_apart, every_mem, find_left, find_mem, get_mem, map_mem, mem_map}
use Rattle.som_model_laws.proofs.Members.{mem_left, mem_right, mem_split}
use Rattle.som_model_laws.proofs.Metas.{at_most, lower_by}
use Rattle.som_model_laws.proofs.Standing.{found, found_is, known_above, named_one}
use Rattle.som_release_laws.proofs.Facing.{tested, tests}
use Rattle.som_release_laws.proofs.Lists.{both_true, none_left}
use Rattle.som_release_laws.proofs.Prefix.{descends_less, signature_same}
use Rattle.som_verify_classes.proofs.FacesOnly.{known_faces}
use Rattle.som_breach_laws.specs.Breaking.{IsNew, KeepsPlace}
use Rattle.som_breach_laws.specs.OwnNames.{BindsOwn, own_names}
use Rattle.som_breach_laws.proofs.Lists.{map_none}
use Rattle.som_breach_laws.proofs.Moving.{Stands}
use Rattle.som_breach_laws.proofs.Pairs.{at_new, library_key}
use Rattle.som_witness.specs.Program.{call_on_c, one_class, sig_g, variable_v, with_g, with_override, zero_values, zero_values_with}
use Rattle.som_witness.specs.Showings.{fits_among}
use Rattle.som_witness.proofs.Adding.{Stacks, ordered_more}
use Rattle.som_witness.proofs.Changes.{class_fits, fitting_length, mapped_length, passed, values_length}
use Rattle.som_witness.proofs.Forms.{answer_typed, body_went, call_stmt_typed, call_typed, class_typed, local_typed, one_went, return_typed, set_typed, typed_as, value_is, variable_typed}
use Rattle.som_witness.proofs.Known.{signature_known}
use Rattle.som_witness.proofs.Metas.{meta_less}
use Rattle.som_witness.proofs.Released.{WithFace, class_there, faces, ordered, same_descent, same_meta, same_signature}
use Rattle.som_witness.proofs.Slots.{at_slot, slot_at}

-- ---- facts of the classes of a run

facts_descent : (cs : List Class) (k a : ClassKey) → (running_facts cs).is_a k a ≡ true → is_a cs k a ≡ true
unfolding running_facts
facts_descent cs k a e = e

facts_signature : (cs : List Class) (r : MethodRef) → (running_facts cs).signature r ≡ sig_of cs (owner cs r)
unfolding running_facts
facts_signature cs r = refl

facts_object : (cs : List Class) (k : ClassKey) → (running_facts cs).class_object k ≡ meta cs k
unfolding running_facts
facts_object cs k = refl

-- ---- what well typed bodies say

-- the one body of a class with a method g
g_went : (w : ClassFacts) (cs : List Class) (name : List ℕ) (sig : Sig) (vs : List Variable) (s : Stmt) → class_typed_by w cs (class_in modules.Client (with_g name sig vs (s ∷ []))) ≡ []
    → (next : Scope) × (stmt_scope w (in_body (class_in modules.Client (with_g name sig vs (s ∷ []))) sig.result) s sig.params ≡ Ok next)
g_went w cs name sig vs s e =
    let c = class_in modules.Client (with_g name sig vs (s ∷ [])) in
    let at = in_body c sig.result in
    let broken = body_breach c (codes "g") (block_scope w at (record { statements = s ∷ [] }) sig.params) in
    let a = none_left (broken ++ []) [] e in
    let b = none_left broken [] a.0 in
    let after = body_went c (codes "g") (block_scope w at (record { statements = s ∷ [] }) sig.params) b.0 in
    one_went w at s sig.params after.0 after.1

-- the one override of a class
override_went : (w : ClassFacts) (cs : List Class) (name : List ℕ) (m : MethodRef) (vs : List Variable) (s : Stmt) (sig : Sig) → class_typed_by w cs (class_in modules.Client (with_override name m vs (s ∷ []))) ≡ []
    → sig_of cs (owner cs m) ≡ Some sig
    → (next : Scope) × (stmt_scope w (in_body (class_in modules.Client (with_override name m vs (s ∷ []))) sig.result) s sig.params ≡ Ok next)
override_went w cs name m vs s sig e is =
    let d = with_override name m vs (s ∷ []) in
    let c = class_in modules.Client d in
    let at = in_body c sig.result in
    let o : Override = record { method = m; block = record { statements = s ∷ [] } } in
    let a = none_left (override_breach_by w c o (sig_of cs (owner cs m))) [] e in
    let b : override_breach_by w c o (Some sig) ≡ [] = subst (λ z. override_breach_by w c o z ≡ []) is a.0 in
    let after = body_went c m.name (block_scope w at (record { statements = s ∷ [] }) sig.params) b in
    one_went w at s sig.params after.0 after.1

-- a variable is set to a value that fits it
set_fits : (w : ClassFacts) (at : CodePlace) (scope next : Scope) (e : Expr) (t : ExprType) (kind : ValueType) → stmt_scope w at (stmts.SetVariable 0 e) scope ≡ Ok next → expr_type w at scope e ≡ Ok t → own_variable at 0 ≡ Ok kind
    → fits w kind t ≡ true
set_fits w at scope next e t kind h typed own =
    let q = went (value (expr_type w at scope e)) (variable_set w at scope 0) next (sym (set_typed w at 0 e scope) ∙ h) in
    let v = value_is q.value (expr_type w at scope e) q.first in
    let same : t ≡ q.value = same_ok t q.value (sym typed ∙ v.0) in
    let k = went (own_variable at 0) (λ kind. needs 17 (fits w kind q.value) (Ok scope)) next q.further in
    let kind_is : kind ≡ k.value = same_ok kind k.value (sym own ∙ k.first) in
    let f = held 17 (fits w k.value q.value) (Ok scope) next k.further in
    subst (λ z. fits w z t ≡ true) (sym kind_is) (subst (λ z. fits w k.value z ≡ true) (sym same) f.0)

-- a value is returned that fits the result, and isn't void
return_fits : (w : ClassFacts) (at : CodePlace) (scope next : Scope) (e : Expr) (t : ExprType) → stmt_scope w at (stmts.ReturnValue e) scope ≡ Ok next → expr_type w at scope e ≡ Ok t → fits w at.result t ≡ true
return_fits w at scope next e t h typed =
    let q = went (value (expr_type w at scope e)) (value_return w at scope) next (sym (answer_typed w at e scope) ∙ h) in
    let v = value_is q.value (expr_type w at scope e) q.first in
    let same : t ≡ q.value = same_ok t q.value (sym typed ∙ v.0) in
    let f = held 19 (not (is_nothing (Of at.result)) && fits w at.result q.value) (Ok scope) next q.further in
    let g = both (not (is_nothing (Of at.result))) (fits w at.result q.value) f.0 in
    subst (λ z. fits w at.result z ≡ true) (sym same) g.1

-- what a well typed call by its slot says
record CallWent (w : ClassFacts) (at : CodePlace) (scope : Scope) (args : List Expr) (sig : Sig) (t : ExprType) : Type 0 where
  pub types_ : List ExprType
  pub typed : values (map (expr_type w at scope) args) ≡ Ok types_
  pub fit : all_fit w sig.params types_ ≡ true
  pub result : Of sig.result ≡ t

call_went : (w : ClassFacts) (at : CodePlace) (scope : Scope) (m : MethodRef) (args : List Expr) (sig : Sig) (t : ExprType) → expr_type w at scope (call_on_c m args) ≡ Ok t → w.signature m ≡ Some sig → CallWent w at scope args sig t
call_went w at scope m args sig t e is =
    let E = expr_type w at scope in
    let q = went (value (E (exprs.Local 0))) (λ on. values (map E args) >>= offset_call_type w m on) t (sym (call_typed w at scope m (exprs.Local 0) args) ∙ e) in
    let ts = went (values (map E args)) (offset_call_type w m q.value) t q.further in
    let s = went (asked 16 (w.signature m)) (λ sig. needs 17 (descends_to w m.class q.value) (needs 18 (all_fit w sig.params ts.value) (Ok (Of sig.result)))) t ts.further in
    let same : s.value ≡ sig = one s.value sig (sym (was_found 16 (w.signature m) s.value s.first) ∙ is) in
    let a = held 17 (descends_to w m.class q.value) (needs 18 (all_fit w s.value.params ts.value) (Ok (Of s.value.result))) t s.further in
    let b = held 18 (all_fit w s.value.params ts.value) (Ok (Of s.value.result)) t a.1 in
    record {
      types_ = ts.value;
      typed = ts.first;
      fit = subst (λ (z : Sig). all_fit w z.params ts.value ≡ true) same b.0;
      result = subst (λ (z : Sig). Of z.result ≡ t) same (same_ok (Of s.value.result) t b.1);
    }
  where
    one : (a b : Sig) → Some a ≡ Some b → a ≡ b
    one a b f = cc

call_stmt_went : (w : ClassFacts) (at : CodePlace) (scope next : Scope) (e : Expr) → stmt_scope w at (stmts.Call e) scope ≡ Ok next → (t : ExprType) × (expr_type w at scope e ≡ Ok t)
call_stmt_went w at scope next e h =
    let q = went (expr_type w at scope e) (λ t. needs 20 (is_call e) (Ok scope)) next (sym (call_stmt_typed w at e scope) ∙ h) in
    (q.value, q.first)

-- what a call by its slot answers is returned, and fits the result
answer_fits : (w : ClassFacts) (at : CodePlace) (scope next : Scope) (m : MethodRef) (args : List Expr) (sig : Sig) → stmt_scope w at (stmts.ReturnValue (call_on_c m args)) scope ≡ Ok next → w.signature m ≡ Some sig
    → fits w at.result (Of sig.result) ≡ true
answer_fits w at scope next m args sig h is =
    let call = call_on_c m args in
    let q = went (value (expr_type w at scope call)) (value_return w at scope) next (sym (answer_typed w at call scope) ∙ h) in
    let v = value_is q.value (expr_type w at scope call) q.first in
    let c = call_went w at scope m args sig q.value v.0 is in
    return_fits w at scope next call (Of sig.result) h (v.0 ∙ ap typed_as {x = q.value} {y = Of sig.result} (sym c.result))

some_value : (t : ValueType) → not (is_void t) ≡ true → value (Ok (Of t)) ≡ Ok (Of t)
some_value types.Void e = absurd (true≢false (sym e))
some_value types.Long e = refl
some_value types.Boolean e = refl
some_value types.Str e = refl
some_value (types.Class k) e = refl

-- ---- the old class, which the new interface still has

module _ (old new : Interface) (so : Stands old) (sn : Stands new) (r : Release) (is : interface_of r ≡ new) (name : List ℕ) (c n : Class) (m : Mem c (interface_classes old)) (kept : IsNew new c n) where
  abbrev olds : List Class
  olds = interface_classes old

  abbrev news : List Class
  news = library_classes r

  abbrev O : List Class
  O = release_of old

  abbrev F : List Class
  F = release_of new

  abbrev N : List Class
  N = kernel ++ news

  abbrev on : IsOrdered (interface_classes new)
  on = sn.load.ordered

  abbrev onr : IsOrdered news
  onr = ordered new r is on

  abbrev K : ClassKey
  K = keys.Named modules.Library c.decl.face.name

  abbrev own : ClassDecl → Class
  own d = class_in modules.Client d

  abbrev L : ClassDecl → List Class
  L d = kernel ++ (news ++ own d ∷ [])

  key_is : c.key ≡ K
  key_is = library_key old c m

  old_at : class_at O K ≡ Some c
  old_at = found olds so.load.ordered c K (mem_right c kernel olds m) key_is

  new_at : class_at F K ≡ Some n
  new_at = ap (class_at F) (sym key_is) ∙ at_new old new on c n m kept

  now : WithFace N K n
  now = class_there new r is on K n new_at

  known_now : Mem K (keys_of N)
  known_now =
      let f = found_is news onr K now.class now.at in
      subst (λ z. Mem z (keys_of N)) f.1 (mem_map (λ (z : Class). z.key) now.class N f.0)

  -- W can stand after the release's classes
  record IsPlain (d : ClassDecl) : Type 0 where
    pub below : (k : ClassKey) → Mem k d.face.parents → Mem k (keys_of N)
    pub bare : d.face.metaclass ≡ None
    pub unmoved : (x : List ℕ) (to : ClassKey) → Mem (entries.Moved x to) d.face.entries → ⊥

  stacks : (d : ClassDecl) → IsPlain d → Stacks news (own d)
  stacks d p = record {
    own = record { module_ = modules.Client; outside = λ e. cc; is = refl };
    other = λ z q e. (
        let a = map_mem (class_in modules.Library) z r.classes q in
        let key = ap (λ (y : Class). y.key) (sym a.2) ∙ e in
        let same = (named_one modules.Library modules.Client a.0.face.name d.face.name key).0 in
        cc);
    below = p.below;
    bare = p.bare;
    unmoved = p.unmoved;
  }

  plain_g : (sig : Sig) (vs : List Variable) (ss : List Stmt) → IsPlain (with_g name sig vs ss)
  plain_g sig vs ss = record {
    below = λ k q. elim q [ inl e ↦ inl e | inr z ↦ absurd z ];
    bare = refl;
    unmoved = λ x to q. elim q [ inl e ↦ cc | inr z ↦ z ];
  }

  plain_override : (x : List ℕ) (vs : List Variable) (ss : List Stmt) → IsPlain (with_override name (record { class = K; name = x }) vs ss)
  plain_override x vs ss = record {
    below = λ k q. elim q [ inl e ↦ subst (λ z. Mem z (keys_of N)) (sym e) known_now | inr z ↦ absurd z ];
    bare = refl;
    unmoved = λ x to q. q;
  }

  module _ (d : ClassDecl) (plain : IsPlain d) where
    above : IsOrdered (news ++ own d ∷ [])
    above = ordered_more news onr (own d) (stacks d plain)

    -- what a class of the release descends from among all, it descends from in the new interface
    down : (k a : ClassKey) (y : Class) → class_at N k ≡ Some y → is_a (L d) k a ≡ true → Descends (hierarchy F) k a
    down k a y at e = same_descent new r is on k a (descends_less news (own d ∷ []) above k a y at (tested (news ++ own d ∷ []) above k a e))

    signature_now : (x : List ℕ) → sig_of (L d) (owner (L d) (record { class = K; name = x })) ≡ signature F K x
    signature_now x = signature_same news (own d ∷ []) above K x now.class now.at ∙ same_signature new r is on K x

  -- ---- K4

  -- W names a method of C that doesn't stand at its slot
  pub slot_refused : (d : ClassDecl) (x : List ℕ) (place : ℕ) → Mem (AMethod (record { class = K; name = x })) (own_names (one_class old d)) → slice_get (order_of c) place ≡ Some x → (KeepsPlace n place x → ⊥)
      → BindsOwn (one_class old d) r → ⊥
  slot_refused d x place named at moved b =
      let s = b.slots (record { class = K; name = x }) named in
      let before : slot_in (Some c) x ≡ Some s.0 = ap (λ (o : Option Class). slot_in o x) (sym (find_left (λ (z : Class). same_key z.key K) O (own d ∷ []) c old_at)) ∙ s.1 in
      let after : slot_in (Some now.class) x ≡ Some s.0 = ap (λ (o : Option Class). slot_in o x) (sym (find_left (λ (z : Class). same_key z.key K) N (own d ∷ []) now.class now.at)) ∙ s.2 in
      let differ = doubles_apart bytes_eq exact_bytes (order_of c) (map_none (breach 6 c) _ (so.load.names c m)) in
      let here = slot_at 0 x c.decl.face.entries place differ at in
      let there = at_slot 0 x now.class.decl.face.entries s.0 after in
      let one : place + 0 ≡ s.0 = same (place + 0) s.0 (sym here ∙ before) in
      let counted = there.counted in
      let two : there.place ≡ place = omega (arith, one, counted) in
      let order : order_of now.class ≡ order_of n = ap (λ (f : ClassFace). map entry_name f.entries) now.face in
      moved (ap (λ z. slice_get z place) (sym order) ∙ ap (slice_get (order_of now.class)) (sym two) ∙ there.name)
    where
      same : (a b : ℕ) → Some a ≡ Some b → a ≡ b
      same a b e = cc

  -- ---- K3

  -- W keeps a C as an object of a class from which C doesn't descend any more
  pub ancestor_refused : (a : ClassKey) → (Descends (hierarchy F) K a → ⊥)
      → BindsOwn (one_class old (with_g name (sig_g types.Void (types.Class K ∷ [])) (variable_v (types.Class a)) (stmts.SetVariable 0 (exprs.Local 0) ∷ []))) r → ⊥
  ancestor_refused a lost b =
      let sig = sig_g types.Void (types.Class K ∷ []) in
      let vs = variable_v (types.Class a) in
      let d = with_g name sig vs (stmts.SetVariable 0 (exprs.Local 0) ∷ []) in
      let w = running_facts (L d) in
      let at = in_body (own d) types.Void in
      let g = g_went w (L d) name sig vs (stmts.SetVariable 0 (exprs.Local 0)) (b.typed (own d) (inl refl)) in
      let f = set_fits w at sig.params g.0 (exprs.Local 0) (Of (types.Class K)) (types.Class a) g.1 (local_typed w at sig.params 0) refl in
      lost (down d (plain_g sig vs (stmts.SetVariable 0 (exprs.Local 0) ∷ [])) K a now.class now.at (facts_descent (L d) K a f))

  -- ---- K6

  -- W returns the class object of C as an object of a class from which its metaclass doesn't descend any more
  pub metaclass_refused : (k : ClassKey) → IsDeclared k → (Descends (hierarchy F) (meta F K) k → ⊥)
      → BindsOwn (one_class old (with_g name (sig_g (types.Class k) []) [] (stmts.ReturnValue (exprs.Class K) ∷ []))) r → ⊥
  metaclass_refused k declared lost b =
      let sig = sig_g (types.Class k) [] in
      let d = with_g name sig [] (stmts.ReturnValue (exprs.Class K) ∷ []) in
      let plain = plain_g sig [] (stmts.ReturnValue (exprs.Class K) ∷ []) in
      let w = running_facts (L d) in
      let at = in_body (own d) (types.Class k) in
      let g = g_went w (L d) name sig [] (stmts.ReturnValue (exprs.Class K)) (b.typed (own d) (inl refl)) in
      let q = went (value (expr_type w at [] (exprs.Class K))) (value_return w at []) g.0 (sym (answer_typed w at (exprs.Class K) []) ∙ g.1) in
      let v = value_is q.value (expr_type w at [] (exprs.Class K)) q.first in
      let h = held 16 (w.is_known K) (Ok (Of (types.Class (w.class_object K)))) q.value (sym (class_typed w at [] K) ∙ v.0) in
      let f = return_fits w at [] g.0 (exprs.Class K) (Of (types.Class (w.class_object K))) g.1 (v.0 ∙ sym h.1) in
      let big = tested (news ++ own d ∷ []) (above d plain) (meta (L d) K) k (facts_descent (L d) (meta (L d) K) k (subst (λ z. w.is_a z k ≡ true) (facts_object (L d) K) f)) in
      let small = meta_less news (own d ∷ []) (above d plain) K k now.class now.at declared big in
      lost (subst (λ z. Descends (hierarchy F) z k) (same_meta new r is on K) (same_descent new r is on (meta N K) k small))

  -- ---- K5

  -- of two classes each of which descends from the other
  one_class_two : (a k : ClassKey) → Descends (hierarchy F) a k → Descends (hierarchy F) k a → same_key a k ≡ false → ⊥
  one_class_two a k x y e =
      let up = lower_by (interface_classes new) on a k x e in
      let low = at_most (interface_classes new) on k a y in
      omega (arith, up, low)

  is_in : (o : Option Class) → is_some o ≡ true → (y : Class) × (o ≡ Some y)
  is_in None e = absurd (true≢false (sym e))
  is_in (Some y) e = (y, refl)

  in_release : (k : ClassKey) → is_some (class_at F k) ≡ true → (y : Class) × (class_at N k ≡ Some y)
  in_release k e = is_in (class_at N k) (sym (known_faces N k) ∙ ap (λ (z : List Class). is_some (class_at (kernel ++ z) k)) (faces new r is on) ∙ e)

  in_interface : (k : ClassKey) (y : Class) → class_at N k ≡ Some y → (z : Class) × (class_at F k ≡ Some z)
  in_interface k y e = is_in (class_at F k) (ap (λ (z : List Class). is_some (class_at (kernel ++ z) k)) (sym (faces new r is on)) ∙ known_faces N k ∙ ap is_some e)

  -- a class of the release that descends from another fits it
  fits_now : (k a : ClassKey) (y : Class) → class_at N k ≡ Some y → Descends (hierarchy F) k a → fits_among F (types.Class a) (types.Class k) ≡ true
  fits_now k a y at down =
      let z = in_interface k y at in
      let up = known_above (interface_classes new) on k a z.0 z.1 down in
      let high : is_some (class_at F a) ≡ true = ap is_some up.1 in
      let low : is_some (class_at F k) ≡ true = ap is_some z.1 in
      let below : is_a F k a ≡ true = tests (interface_classes new) on k a down in
      both_true (is_some (class_at F a)) (is_some (class_at F k) && is_a F k a) high (both_true (is_some (class_at F k)) (is_a F k a) low below)

  -- what fits among the new interface's classes, and is another type
  fits_says : (kind t : ValueType) → fits_among F kind t ≡ true → same_type t kind ≡ false
      → (a : ClassKey) × (k : ClassKey) × (kind ≡ types.Class a) × (t ≡ types.Class k) × (is_some (class_at F a) ≡ true) × (is_a F k a ≡ true)
  fits_says (types.Class a) (types.Class k) e f =
      let p = both (is_some (class_at F a)) (is_some (class_at F k) && is_a F k a) e in
      let q = both (is_some (class_at F k)) (is_a F k a) p.1 in
      (a, k, refl, refl, p.0, q.1)
  fits_says (types.Class a) types.Void e f = absurd (true≢false (sym e))
  fits_says (types.Class a) types.Long e f = absurd (true≢false (sym e))
  fits_says (types.Class a) types.Boolean e f = absurd (true≢false (sym e))
  fits_says (types.Class a) types.Str e f = absurd (true≢false (sym e))
  fits_says types.Void t e f = absurd (true≢false (sym e ∙ f))
  fits_says types.Long t e f = absurd (true≢false (sym e ∙ f))
  fits_says types.Boolean t e f = absurd (true≢false (sym e ∙ f))
  fits_says types.Str t e f = absurd (true≢false (sym e ∙ f))

  -- a type that fits another in the new interface isn't fitted by it among all
  not_back : (d : ClassDecl) → IsPlain d → (kind t : ValueType) → fits_among F kind t ≡ true → same_type t kind ≡ false → fits (running_facts (L d)) t (Of kind) ≡ true → ⊥
  not_back d plain kind t e f g =
      let q = fits_says kind t e f in
      let a = q.0 in
      let k = q.1 in
      let y = in_release a q.4 in
      let back : is_a (L d) a k ≡ true = facts_descent (L d) a k (subst (λ z. fits (running_facts (L d)) z (Of (types.Class a)) ≡ true) q.3 (subst (λ z. fits (running_facts (L d)) t (Of z) ≡ true) q.2 g)) in
      let other : same_key k a ≡ false = subst (λ z. same_type z (types.Class a) ≡ false) q.3 (subst (λ z. same_type t z ≡ false) q.2 f) in
      one_class_two k a (tested (interface_classes new) on k a q.5) (down d plain a k y.0 y.1 back) other

  -- a type that doesn't fit another in the new interface doesn't among all, if its class is of the release
  not_now : (d : ClassDecl) → IsPlain d → (kind t : ValueType) → fits_among F kind t ≡ false → same_type t kind ≡ false → ((k : ClassKey) → t ≡ types.Class k → (y : Class) × (class_at N k ≡ Some y))
      → fits (running_facts (L d)) kind (Of t) ≡ true → ⊥
  not_now d plain kind t e f there g =
      let q = class_fits (running_facts (L d)) kind t g f in
      let y = there q.low q.type_is in
      let below = down d plain q.low q.high y.0 y.1 (facts_descent (L d) q.low q.high q.below) in
      let yes = fits_now q.low q.high y.0 y.1 below in
      true≢false (sym yes ∙ subst (λ z. fits_among F (types.Class q.high) z ≡ false) q.type_is (subst (λ z. fits_among F z t ≡ false) q.kind_is e))

  module _ (x : List ℕ) (s t : Sig) (old_sig : signature O K x ≡ Some s) (new_sig : signature F K x ≡ Some t) where
    abbrev method : MethodRef
    method = record { class = K; name = x }

    called : (d : ClassDecl) → IsPlain d → (running_facts (L d)).signature method ≡ Some t
    called d plain = facts_signature (L d) method ∙ signature_now d plain x ∙ new_sig

    overridden : (d : ClassDecl) → IsPlain d → sig_of (L d) (owner (L d) method) ≡ Some t
    overridden d plain = signature_now d plain x ∙ new_sig

    -- W calls m with as many values as it had parameters
    pub count_refused : (length s.params ≡ length t.params → ⊥) → BindsOwn (one_class old (with_g name (sig_g types.Void (types.Class K ∷ [])) [] (stmts.Call (call_on_c method (zero_values s.params)) ∷ []))) r → ⊥
    count_refused other b =
        let sig = sig_g types.Void (types.Class K ∷ []) in
        let call = stmts.Call (call_on_c method (zero_values s.params)) in
        let d = with_g name sig [] (call ∷ []) in
        let w = running_facts (L d) in
        let at = in_body (own d) types.Void in
        let g = g_went w (L d) name sig [] call (b.typed (own d) (inl refl)) in
        let e = call_stmt_went w at sig.params g.0 (call_on_c method (zero_values s.params)) g.1 in
        let q = call_went w at sig.params method (zero_values s.params) t e.0 e.1 (called d (plain_g sig [] (call ∷ []))) in
        let one = fitting_length w t.params q.types_ q.fit in
        let two = values_length (map (expr_type w at sig.params) (zero_values s.params)) q.types_ q.typed in
        let three = mapped_length (expr_type w at sig.params) s.params in
        other (omega (arith, one, two, three))

    -- W overrides m, and keeps a parameter in a variable of its old type
    pub kept_refused : (j : ℕ) (before after : ValueType) → slice_get t.params j ≡ Some after → same_type before after ≡ false → fits_among F after before ≡ true
        → BindsOwn (one_class old (with_override name method (variable_v before) (stmts.SetVariable 0 (exprs.Local j) ∷ []))) r → ⊥
    kept_refused j before after at_j differ fit b =
        let vs = variable_v before in
        let set = stmts.SetVariable 0 (exprs.Local j) in
        let d = with_override name method vs (set ∷ []) in
        let plain = plain_override x vs (set ∷ []) in
        let w = running_facts (L d) in
        let at = in_body (own d) t.result in
        let g = override_went w (L d) name method vs set t (b.typed (own d) (inl refl)) (overridden d plain) in
        let typed : expr_type w at t.params (exprs.Local j) ≡ Ok (Of after) = local_typed w at t.params j ∙ ap (λ o. asked 16 o >>= λ kind. Ok (Of kind)) at_j in
        not_back d plain after before fit differ (set_fits w at t.params g.0 (exprs.Local j) (Of after) before g.1 typed refl)

    -- W overrides m, and returns nothing
    pub nothing_refused : (is_void t.result ≡ true → ⊥) → BindsOwn (one_class old (with_override name method [] (stmts.Return ∷ []))) r → ⊥
    nothing_refused some b =
        let d = with_override name method [] (stmts.Return ∷ []) in
        let plain = plain_override x [] (stmts.Return ∷ []) in
        let w = running_facts (L d) in
        let at = in_body (own d) t.result in
        let g = override_went w (L d) name method [] stmts.Return t (b.typed (own d) (inl refl)) (overridden d plain) in
        let h = held 19 (is_nothing (Of t.result)) (Ok t.params) g.0 (sym (return_typed w at t.params) ∙ g.1) in
        some (void t.result h.0)
      where
        void : (z : ValueType) → is_nothing (Of z) ≡ true → is_void z ≡ true
        void types.Void e = refl
        void types.Long e = e
        void types.Boolean e = e
        void types.Str e = e
        void (types.Class k) e = e

    -- W overrides m, and returns a variable of its old result's type
    pub variable_refused : same_type s.result t.result ≡ false → same_type t.result s.result ≡ false → fits_among F s.result t.result ≡ true
        → BindsOwn (one_class old (with_override name method (variable_v s.result) (stmts.ReturnValue (exprs.Variable 0) ∷ []))) r → ⊥
    variable_refused differ differ_too fit b =
        let vs = variable_v s.result in
        let back = stmts.ReturnValue (exprs.Variable 0) in
        let d = with_override name method vs (back ∷ []) in
        let plain = plain_override x vs (back ∷ []) in
        let w = running_facts (L d) in
        let at = in_body (own d) t.result in
        let g = override_went w (L d) name method vs back t (b.typed (own d) (inl refl)) (overridden d plain) in
        not_back d plain s.result t.result fit differ_too (return_fits w at t.params g.0 (exprs.Variable 0) (Of s.result) g.1 (variable_typed w at t.params 0))

    -- the class of the new result is of the release
    result_there : (k : ClassKey) → t.result ≡ types.Class k → (y : Class) × (class_at N k ≡ Some y)
    result_there k e =
        let known = both (is_known F t.result) (every (is_value_type F) t.params) (signature_known new sn K x t new_sig) in
        in_release k (subst (λ z. is_known F z ≡ true) e known.0)

    -- W calls m, and returns what it answers as a value of the old result's type
    pub answer_refused : same_type t.result s.result ≡ false → fits_among F s.result t.result ≡ false
        → BindsOwn (one_class old (with_g name (sig_g s.result (types.Class K ∷ [])) [] (stmts.ReturnValue (call_on_c method (zero_values s.params)) ∷ []))) r → ⊥
    answer_refused differ fit b =
        let sig = sig_g s.result (types.Class K ∷ []) in
        let call = call_on_c method (zero_values s.params) in
        let d = with_g name sig [] (stmts.ReturnValue call ∷ []) in
        let plain = plain_g sig [] (stmts.ReturnValue call ∷ []) in
        let w = running_facts (L d) in
        let at = in_body (own d) s.result in
        let g = g_went w (L d) name sig [] (stmts.ReturnValue call) (b.typed (own d) (inl refl)) in
        not_now d plain s.result t.result fit differ result_there (answer_fits w at sig.params g.0 method (zero_values s.params) t g.1 (called d plain))

    -- the class of an old parameter is of the release, if W names it
    parameter_there : (d : ClassDecl) → BindsOwn (one_class old d) r → (k : ClassKey) → is_some (class_at O k) ≡ true → Mem (AClass k) (own_names (one_class old d)) → (y : Class) × (class_at N k ≡ Some y)
    parameter_there d b k known named =
        let z = is_in (class_at O k) known in
        let f = found_is olds so.load.ordered k z.0 z.1 in
        elim (mem_split z.0 kernel olds f.0) [
          | inl a ↦ (z.0, found news onr z.0 k (mem_left z.0 kernel news a) f.1)
          | inr o ↦ (
              let key : k ≡ keys.Named modules.Library z.0.decl.face.name = sym f.1 ∙ library_key old z.0 o in
              let y = is_in (class_at news (keys.Named modules.Library z.0.decl.face.name)) (b.known z.0.decl.face.name (subst (λ q. Mem (AClass q) (own_names (one_class old d))) key named)) in
              let g = find_mem (λ (q : Class). same_key q.key (keys.Named modules.Library z.0.decl.face.name)) news y.0 y.1 in
              (y.0, found news onr y.0 k (mem_right y.0 kernel news g.0) (exact_keys.two y.0.key (keys.Named modules.Library z.0.decl.face.name) g.1 ∙ sym key)))
        ]

    -- W passes a value of a parameter's old type
    pub passed_refused : (j : ℕ) (before after : ValueType) → slice_get s.params j ≡ Some before → slice_get t.params j ≡ Some after → same_type before after ≡ false → fits_among F after before ≡ false
        → BindsOwn (one_class old (with_g name (sig_g types.Void (types.Class K ∷ before ∷ [])) [] (stmts.Call (call_on_c method (zero_values_with j s.params)) ∷ []))) r → ⊥
    passed_refused j before after at_j at_k differ fit b =
        let sig = sig_g types.Void (types.Class K ∷ before ∷ []) in
        let args = zero_values_with j s.params in
        let call = stmts.Call (call_on_c method args) in
        let d = with_g name sig [] (call ∷ []) in
        let plain = plain_g sig [] (call ∷ []) in
        let w = running_facts (L d) in
        let at = in_body (own d) types.Void in
        let E = expr_type w at sig.params in
        let g = g_went w (L d) name sig [] call (b.typed (own d) (inl refl)) in
        let e = call_stmt_went w at sig.params g.0 (call_on_c method args) g.1 in
        let q = call_went w at sig.params method args t e.0 e.1 (called d plain) in
        let known = both (is_known O s.result) (every (is_value_type O) s.params) (signature_known old so K x s old_sig) in
        let value_type = every_mem (is_value_type O) before s.params known.1 (get_mem s.params j before at_j) in
        let p = both (not (is_void before)) (is_known O before) value_type in
        let local : value (E (exprs.Local 1)) ≡ Ok (Of before) = ap value (local_typed w at sig.params 1) ∙ some_value before p.0 in
        let f = passed w E (Of before) local s.params t.params q.types_ j before after at_j at_k q.typed q.fit in
        not_now d plain after before fit differ (λ k is_class. parameter_there d b k (subst (λ z. is_known O z ≡ true) is_class p.1)
        (subst (λ z. Mem (AClass k) (own_names (one_class old (with_g name (sig_g types.Void (types.Class K ∷ z ∷ [])) [] (call ∷ []))))) (sym is_class) (inr (inr (inl refl))))) f
