-- The texts of W that has the method g stand for W, in each way in which it shows a breach.
use Rattle.std.proofs.Common.{◌≡◌, ℕ, ◌+◌, inl, inr, true, false, not, List, [], ◌∷◌, slice_get, Option, Some, None, is_some, Ok, refl, sym, ap, ◌∙◌, subst, true≢false}
use Rattle.std.specs.Prelude.{codes, unwrap_or}
use Rattle.som_model.specs.declared.key.Module.TheVariants as modules
use Rattle.som_model.specs.declared.key.ClassKey.{ClassKey}
use Rattle.som_model.specs.declared.key.ClassKey.TheVariants as keys
use Rattle.som_model.specs.declared.key.MethodRef.{MethodRef}
use Rattle.som_model.specs.declared.key.ValueType.{ValueType}
use Rattle.som_model.specs.declared.key.ValueType.TheVariants as types
use Rattle.som_model.specs.declared.class.Entry.{Entry}
use Rattle.som_model.specs.declared.class.Entry.TheVariants as entries
use Rattle.som_model.specs.declared.class.Sig.{Sig}
use Rattle.som_model.specs.declared.class.Variable.{Variable}
use Rattle.som_model.specs.declared.class.Way.{Way}
use Rattle.som_model.specs.declared.class.Way.TheVariants as ways
use Rattle.som_model.specs.declared.class.ClassDecl.{ClassDecl}
use Rattle.som_model.specs.declared.program.Interface.{Interface}
use Rattle.som_model.specs.declared.syntax.Expr.TheVariants as exprs
use Rattle.som_model.specs.declared.syntax.Stmt.TheVariants as stmts
use Rattle.som_model.specs.Lists.{Mem, every}
use Rattle.som_model.specs.Ancestors.{Descends, anc}
use Rattle.som_model.specs.Class.{Class, class_in, introduced_sig}
use Rattle.som_model.specs.Classes.{class_at, hierarchy, interface_classes}
use Rattle.som_model.specs.Kernel.{som_class, som_object}
use Rattle.som_model.specs.Owner.{entry_at, introduces}
use Rattle.som_model.specs.Rules.{is_known, is_value_type, is_void, name_of}
use Rattle.som_model.specs.Compatible.{release_of, signature}
use Rattle.som_model.specs.Typing.{ClassFacts, CodePlace, Of, fits, in_body, is_nothing}
use Rattle.som_model.proofs.KeyLaws.{both}
use Rattle.som_model.proofs.ListLaws.{is_false}
use Rattle.som_model_laws.proofs.Laws.{ancestors_first}
use Rattle.som_model_laws.proofs.Lists.{every_mem, mem_every}
use Rattle.som_model_laws.proofs.Owners.{metaclass_known}
use Rattle.som_model_laws.proofs.Standing.{known_above}
use Rattle.som_release_laws.proofs.Lists.{both_true}
use Rattle.som_breach_laws.proofs.Moving.{Stands}
use Rattle.som_sema_scope.specs.ClassNames.{type_of}
use Rattle.som_ast.specs.declared.body.StmtText.{StmtText}
use Rattle.som_ast.specs.declared.body.StmtText.TheVariants as statement
use Rattle.som_ast.specs.declared.expression.ExprText.{ExprText}
use Rattle.som_ast.specs.declared.expression.ExprText.TheVariants as texts
use Rattle.som_elab_body.specs.Locals.{Names}
use Rattle.som_elab_body.specs.Methods.{introduced_method, method_by}
use Rattle.som_elab_body.specs.Expressions.{Among, elaborated, facts_among, part}
use Rattle.som_elab.specs.Elaboration.{elaborated_program}
use Rattle.som_witness.specs.Program.{call_on_c as call_expr, one_class, sig_g, variable_v, w_class, zero_values, zero_values_with}
use Rattle.som_witness.specs.Showings.{Showing, Calls, KeepsObject, Passes, ReturnsAnswer, ReturnsClass}
use Rattle.som_witness.specs.Wording.{class_text, goes_by_slot}
use Rattle.som_witness.proofs.Fitting.{none_fine, one_fine}
use Rattle.som_witness.proofs.Holding.{Holds, differ_none, differ_one}
use Rattle.som_witness.proofs.Known.{sig_known, signature_known}
use Rattle.som_witness.proofs.WellTyped.{AreValues, passing_fits, zero_types, zero_types_with, zeros_fit}
use Rattle.som_witness_texts.specs.Trees.{call_on_c as call_tree, main_tree, name_at, param_at, param_c, result_at, set_v, variable_v as variable_item, w_bodies, w_interface, word_at, zero_trees, zero_trees_with}
use Rattle.som_witness_elab.proofs.Below.{OwnEntry, below, entry_here, find_head, is_itself, is_known_here, object_here, signature_here, w_below}
use Rattle.som_witness_elab.proofs.Forms.{Callee, answer_states, call_comes, call_states, class_comes, comes, local_comes, one_stated, set_states, valued_part, zeros, zeros_with}
use Rattle.som_witness_elab.proofs.Items.{no_variable, one_variable}
use Rattle.som_witness_elab.proofs.Names.{key_named, module_named, result_named, type_named}
use Rattle.som_witness_elab.proofs.Overriding.{old_at}
use Rattle.som_witness_elab.proofs.Whole.{among_with}
use Rattle.som_witness_elab.proofs.WithG.{made_with_g, object, object_there}

-- the texts of W of this name stand for it, for the told method and its class
abbrev pub StandFor : Interface → List ℕ → MethodRef → Showing → Type 0
StandFor old name m s = elaborated_program old (w_interface name m s ∷ []) (w_bodies name m s) main_tree.block ≡ Ok (one_class old (w_class name m s))

pub some_thing : (t : ValueType) → is_void t ≡ false → is_nothing (Of t) ≡ false
some_thing types.Void e = absurd (true≢false e)
some_thing types.Long e = refl
some_thing types.Boolean e = refl
some_thing types.Str e = refl
some_thing (types.Class k) e = refl

-- a type fits itself, where each class descends from itself
pub fits_itself : (w : ClassFacts) → ((k : ClassKey) → w.is_a k k ≡ true) → (t : ValueType) → fits w t (Of t) ≡ true
fits_itself w same types.Void = refl
fits_itself w same types.Long = refl
fits_itself w same types.Boolean = refl
fits_itself w same types.Str = refl
fits_itself w same (types.Class k) = same k

abbrev return_tree : ExprText → StmtText
return_tree e = statement.Return (Some e)

by_offset : (x : List ℕ) (sig : Sig) (way : Way) → goes_by_slot (Some (entries.Introduced x sig way)) ≡ true → way ≡ ways.Offset
by_offset x sig ways.Lookup e = absurd (true≢false (sym e))
by_offset x sig ways.Offset e = refl

module _ (old : Interface) (so : Stands old) (holds : Holds old) (name : List ℕ) (free : (c : Class) → Mem c (release_of old) → name_of c ≡ name → ⊥) (c : Class) (m : Mem c (interface_classes old)) where
  abbrev O : List Class
  O = release_of old

  abbrev K : ClassKey
  K = keys.Named modules.Library c.decl.face.name

  at_old : class_at O K ≡ Some c
  at_old = old_at old so holds name free c m

  abbrev method : List ℕ → MethodRef
  method x = record { class = K; name = x }

  k_value : is_value_type O (types.Class K) ≡ true
  k_value = ap is_some at_old

  -- a signature of known types
  sig_fine : (result : ValueType) (params : List ValueType) → is_known O result ≡ true → ((p : ValueType) → Mem p params → is_value_type O p ≡ true) → sig_known O (sig_g result params) ≡ true
  sig_fine result params a f = both_true (is_known O result) (every (is_value_type O) params) a (mem_every (is_value_type O) params f)

  only_k : (p : ValueType) → Mem p (types.Class K ∷ []) → is_value_type O p ≡ true
  only_k p n = elim n [ inl is ↦ subst (λ z. is_value_type O z ≡ true) (sym is) k_value | inr z ↦ absurd z ]

  c_is : type_of (module_named old name) (param_c K).kind ≡ types.Class K
  c_is = type_named old so holds name free 9 (types.Class K) k_value

  -- what its body is elaborated among
  module _ (sig : Sig) (vs : List Variable) where
    abbrev es : List Entry
    es = entries.Introduced (codes "g") sig ways.Offset ∷ []

    unmoved : (x : List ℕ) (to : ClassKey) → Mem (entries.Moved x to) es → ⊥
    unmoved x to n = elim n [ inl e ↦ cc | inr z ↦ z ]

    abbrev d : ClassDecl
    d = w_below name som_object es vs []

    abbrev a : Among
    a = among_with old name d

    abbrev at : CodePlace
    at = in_body (class_in modules.Client d) sig.result

    up : (k b : ClassKey) → Descends (hierarchy O) k b → (facts_among a).is_a k b ≡ true
    up = below old so holds name object (object_there old) es unmoved vs []

    same : (k : ClassKey) → (facts_among a).is_a k k ≡ true
    same = is_itself old so holds name object (object_there old) es unmoved vs []

    callee : (scope : Names) (x : List ℕ) (s : Sig) → signature O K x ≡ Some s → OwnEntry old K x s → goes_by_slot (entry_at O K x) ≡ true → Callee a at scope K x s
    callee scope x s has own slot =
        let way = by_offset x s own.way (ap goes_by_slot (sym own.entry) ∙ slot) in
        let entry = entry_here old so holds name object (object_there old) es unmoved vs [] K c x (entries.Introduced x s ways.Offset) at_old (own.entry ∙ ap (λ (z : Way). Some (entries.Introduced x s z)) way) in
        record {
          method =
              ap (method_by a.classes x) (find_head (introduces a.classes x) (anc (hierarchy a.classes) K) K (ancestors_first (hierarchy a.classes) K) (ap (λ (e : Option Entry). is_some (introduced_sig e)) entry))
              ∙ ap (λ (e : Option Entry). introduced_method (method x) e) entry;
          signature = signature_here old so holds name object (object_there old) es unmoved vs [] K c x s at_old has;
          itself = same K;
        }

  -- K3
  pub keeps_object : (x : List ℕ) (k : ClassKey) → Descends (hierarchy O) K k → StandFor old name (method x) (KeepsObject k)
  keeps_object x k t =
      let sig = sig_g types.Void (types.Class K ∷ []) in
      let vs = variable_v (types.Class k) in
      let above = known_above (interface_classes old) so.load.ordered K k c at_old t in
      let known : is_value_type O (types.Class k) ≡ true = ap is_some above.1 in
      let scope : Names = record { name = codes "c"; kind = types.Class K } ∷ [] in
      let here = valued_part (a sig vs) (at sig vs) scope (name_at 11 (codes "c")) (exprs.Local 0) (Of (types.Class K)) (local_comes (a sig vs) (at sig vs) scope (word_at 11 (codes "c")) 0 (types.Class K) refl refl) refl in
      made_with_g old so holds name free None (param_c K ∷ []) sig refl (ap (λ (z : ValueType). z ∷ []) c_is) (sig_fine types.Void (types.Class K ∷ []) refl only_k) refl
      (variable_item 15 (types.Class k) ∷ []) vs (one_fine O (types.Class k) known) (differ_one (λ (v : Variable). v.name) (record { name = codes "v"; kind = types.Class k }))
      (one_variable (module_named old name) 15 (types.Class k) (type_named old so holds name free 15 (types.Class k) known))
      (word_at 4 (codes "c") ∷ []) (set_v 7 (name_at 11 (codes "c")) ∷ []) refl (stmts.SetVariable 0 (exprs.Local 0) ∷ [])
      (one_stated (a sig vs) (at sig vs) scope (set_v 7 (name_at 11 (codes "c"))) (stmts.SetVariable 0 (exprs.Local 0))
      (set_states (a sig vs) (at sig vs) scope (word_at (7 + 2) (codes "v")) (name_at 11 (codes "c")) (exprs.Local 0) (Of (types.Class K)) (types.Class k) here refl refl (up sig vs K k t)))

  -- K6
  pub returns_class : (x : List ℕ) (k : ClassKey) → c.decl.face.metaclass ≡ Some k → StandFor old name (method x) (ReturnsClass k)
  returns_class x k has =
      let sig = sig_g (types.Class k) [] in
      let above = metaclass_known (interface_classes old) so.load.ordered K c k at_old has in
      let known : is_known O (types.Class k) ≡ true = ap is_some above.1 in
      let object_is = object_here old so holds name object (object_there old) (es sig []) (unmoved sig []) [] [] K c at_old ∙ ap (λ (o : Option ClassKey). unwrap_or o som_class) has in
      let value = class_comes (a sig []) (at sig []) [] (word_at 8 (class_text K)) K k (key_named old so holds name free K c at_old)
      (is_known_here old so holds name object (object_there old) (es sig []) (unmoved sig []) [] [] K c at_old) object_is in
      let e = texts.Class (word_at 8 (class_text K)) in
      made_with_g old so holds name free (result_at 5 (types.Class k)) [] sig (result_named old so holds name free 5 (types.Class k) known) refl (sig_fine (types.Class k) [] known (λ p n. absurd n)) refl
      [] [] (none_fine O) (differ_none (λ (v : Variable). v.name) [] refl) (no_variable (module_named old name))
      [] (return_tree e ∷ []) refl (stmts.ReturnValue (exprs.Class K) ∷ [])
      (one_stated (a sig []) (at sig []) [] (return_tree e) (stmts.ReturnValue (exprs.Class K))
      (answer_states (a sig []) (at sig []) [] e (exprs.Class K) (Of (types.Class k)) (valued_part (a sig []) (at sig []) [] e (exprs.Class K) (Of (types.Class k)) value refl) refl (same sig [] k)))

  -- ---- calls of a method of C

  module _ (x : List ℕ) (s : Sig) (has : signature O K x ≡ Some s) (own : OwnEntry old K x s) (slot : goes_by_slot (entry_at O K x) ≡ true) where
    known : sig_known O s ≡ true
    known = signature_known old so K x s has

    result_known : is_known O s.result ≡ true
    result_known = (both (is_known O s.result) (every (is_value_type O) s.params) known).0

    param_value : (p : ValueType) → Mem p s.params → is_value_type O p ≡ true
    param_value p n = every_mem (is_value_type O) p s.params (both (is_known O s.result) (every (is_value_type O) s.params) known).1 n

    param_some : AreValues s.params
    param_some p n = is_false (is_void p) (both (not (is_void p)) (is_known O p) (param_value p n)).0

    abbrev scope_c : Names
    scope_c = record { name = codes "c"; kind = types.Class K } ∷ []

    -- the call with zero values
    call_is : (sig : Sig) (p : ℕ) → elaborated (a sig []) (at sig []) scope_c (call_tree p x (zero_trees s.params)) ≡ comes (call_expr (method x) (zero_values s.params)) (Of s.result)
    call_is sig p =
        let here = valued_part (a sig []) (at sig []) scope_c (name_at p (codes "c")) (exprs.Local 0) (Of (types.Class K)) (local_comes (a sig []) (at sig []) scope_c (word_at p (codes "c")) 0 (types.Class K) refl refl) refl in
        call_comes (a sig []) (at sig []) scope_c (name_at p (codes "c")) (word_at (p + 2) x) K s (zero_trees s.params) (zero_values s.params) (zero_types s.params) here (callee sig [] scope_c x s has own slot)
        (zeros (a sig []) (at sig []) scope_c s.params) (zeros_fit (facts_among (a sig [])) (at sig []) [] s.params param_some)

    -- K5, the numbers of parameters
    pub calls : StandFor old name (method x) (Calls s.params)
    calls =
        let sig = sig_g types.Void (types.Class K ∷ []) in
        let e = call_tree 7 x (zero_trees s.params) in
        made_with_g old so holds name free None (param_c K ∷ []) sig refl (ap (λ (z : ValueType). z ∷ []) c_is) (sig_fine types.Void (types.Class K ∷ []) refl only_k) refl
        [] [] (none_fine O) (differ_none (λ (v : Variable). v.name) [] refl) (no_variable (module_named old name))
        (word_at 4 (codes "c") ∷ []) (statement.Call e ∷ []) refl (stmts.Call (call_expr (method x) (zero_values s.params)) ∷ [])
        (one_stated (a sig []) (at sig []) scope_c (statement.Call e) (stmts.Call (call_expr (method x) (zero_values s.params)))
        (call_states (a sig []) (at sig []) scope_c e (method x) (zero_values s.params) (Of s.result) (call_is sig 7)))

    -- K5, a parameter
    pub passes : (j : ℕ) (t : ValueType) → Mem t s.params → slice_get s.params j ≡ Some t → StandFor old name (method x) (Passes s.params j t)
    passes j t n at_j =
        let ps = types.Class K ∷ t ∷ [] in
        let sig = sig_g types.Void ps in
        let scope : Names = record { name = codes "c"; kind = types.Class K } ∷ record { name = codes "x"; kind = t } ∷ [] in
        let e = call_tree 9 x (zero_trees_with 13 j s.params) in
        let here = valued_part (a sig []) (at sig []) scope (name_at 9 (codes "c")) (exprs.Local 0) (Of (types.Class K)) (local_comes (a sig []) (at sig []) scope (word_at 9 (codes "c")) 0 (types.Class K) refl refl) refl in
        let passed : (p : ℕ) → part (elaborated (a sig []) (at sig []) scope (name_at p (codes "x"))) ≡ comes (exprs.Local 1) (Of t) =
        λ p. valued_part (a sig []) (at sig []) scope (name_at p (codes "x")) (exprs.Local 1) (Of t) (local_comes (a sig []) (at sig []) scope (word_at p (codes "x")) 1 t refl refl) (some_thing t (param_some t n)) in
        let value = call_comes (a sig []) (at sig []) scope (name_at 9 (codes "c")) (word_at (9 + 2) x) K s (zero_trees_with 13 j s.params) (zero_values_with j s.params) (zero_types_with j t s.params) here
        (callee sig [] scope x s has own slot) (zeros_with (a sig []) (at sig []) scope t passed 13 j s.params)
        (passing_fits (facts_among (a sig [])) (at sig []) ps t (fits_itself (facts_among (a sig [])) (same sig []) t) j s.params param_some at_j) in
        made_with_g old so holds name free None (param_c K ∷ param_at 13 t (codes "x") ∷ []) sig refl
        (ap (λ (z : ValueType). z ∷ type_of (module_named old name) (param_at 13 t (codes "x")).kind ∷ []) c_is ∙ ap (λ (z : ValueType). types.Class K ∷ z ∷ []) (type_named old so holds name free 13 t (param_value t n)))
        (sig_fine types.Void ps refl (λ p q. elim q [
          | inl is ↦ only_k p (inl is)
          | inr r ↦ elim r [ inl is ↦ subst (λ z. is_value_type O z ≡ true) (sym is) (param_value t n) | inr z ↦ absurd z ]
        ])) refl
        [] [] (none_fine O) (differ_none (λ (v : Variable). v.name) [] refl) (no_variable (module_named old name))
        (word_at 4 (codes "c") ∷ word_at 6 (codes "x") ∷ []) (statement.Call e ∷ []) refl (stmts.Call (call_expr (method x) (zero_values_with j s.params)) ∷ [])
        (one_stated (a sig []) (at sig []) scope (statement.Call e) (stmts.Call (call_expr (method x) (zero_values_with j s.params)))
        (call_states (a sig []) (at sig []) scope e (method x) (zero_values_with j s.params) (Of s.result) value))

    -- K5, the result
    pub returns_answer : is_void s.result ≡ false → StandFor old name (method x) (ReturnsAnswer s.params s.result)
    returns_answer some =
        let sig = sig_g s.result (types.Class K ∷ []) in
        let e = call_tree 8 x (zero_trees s.params) in
        let value = call_is sig 8 in
        let thing = some_thing s.result some in
        made_with_g old so holds name free (result_at 5 s.result) (param_c K ∷ []) sig (result_named old so holds name free 5 s.result result_known) (ap (λ (z : ValueType). z ∷ []) c_is)
        (sig_fine s.result (types.Class K ∷ []) result_known only_k) refl
        [] [] (none_fine O) (differ_none (λ (v : Variable). v.name) [] refl) (no_variable (module_named old name))
        (word_at 4 (codes "c") ∷ []) (return_tree e ∷ []) refl (stmts.ReturnValue (call_expr (method x) (zero_values s.params)) ∷ [])
        (one_stated (a sig []) (at sig []) scope_c (return_tree e) (stmts.ReturnValue (call_expr (method x) (zero_values s.params)))
        (answer_states (a sig []) (at sig []) scope_c e (call_expr (method x) (zero_values s.params)) (Of s.result)
        (valued_part (a sig []) (at sig []) scope_c e (call_expr (method x) (zero_values s.params)) (Of s.result) value thing) thing (fits_itself (facts_among (a sig [])) (same sig []) s.result)))
