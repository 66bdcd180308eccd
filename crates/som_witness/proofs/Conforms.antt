-- The client of each breach conforms.
use Rattle.std.proofs.Common.{◌≡◌, ℕ, inl, inr, true, false, not, List, [], ◌∷◌, ◌++◌, map, Option, Some, Ok, slice_get, refl, sym, ap, ◌∙◌, subst}
use Rattle.std.specs.Prelude.{codes, is_some, unwrap_or}
use Rattle.som_model.specs.declared.key.Module.TheVariants as modules
use Rattle.som_model.specs.declared.key.ClassKey.{ClassKey}
use Rattle.som_model.specs.declared.key.ClassKey.TheVariants as keys
use Rattle.som_model.specs.declared.key.MethodRef.{MethodRef}
use Rattle.som_model.specs.declared.key.ValueType.{ValueType}
use Rattle.som_model.specs.declared.key.ValueType.TheVariants as types
use Rattle.som_model.specs.declared.syntax.Expr.{Expr}
use Rattle.som_model.specs.declared.syntax.Expr.TheVariants as exprs
use Rattle.som_model.specs.declared.syntax.Stmt.{Stmt}
use Rattle.som_model.specs.declared.syntax.Stmt.TheVariants as stmts
use Rattle.som_model.specs.declared.class.Sig.{Sig}
use Rattle.som_model.specs.declared.class.Variable.{Variable}
use Rattle.som_model.specs.declared.class.ClassDecl.{ClassDecl}
use Rattle.som_model.specs.declared.program.Interface.{Interface}
use Rattle.som_model.specs.Lists.{Mem, every, first}
use Rattle.som_model.specs.Steps.{◌>>=◌}
use Rattle.som_model.specs.Ancestors.{Descends, itself}
use Rattle.som_model.specs.Class.{Class, class_in}
use Rattle.som_model.specs.Classes.{class_at, hierarchy, interface_classes, is_a}
use Rattle.som_model.specs.Kernel.{kernel, som_class}
use Rattle.som_model.specs.Loads.{IsOrdered}
use Rattle.som_model.specs.Owner.{introduces, owner, sig_of}
use Rattle.som_model.specs.Rules.{RuleBreach, is_known, is_value_type, is_void, name_of}
use Rattle.som_model.specs.Typing.{ClassFacts, ExprType, Of, Typed, all_fit, class_facts, expr_type, fits, in_body, is_nothing, there as asked, value, values}
use Rattle.som_model.specs.TypedBlocks.{stmt_scope}
use Rattle.som_model.specs.Conforming.{ProgramOk, class_typed, main_typed}
use Rattle.som_model.specs.Compatible.{release_of, signature}
use Rattle.som_model.proofs.KeyLaws.{both}
use Rattle.som_model.proofs.ListLaws.{is_false}
use Rattle.som_model.proofs.StepLaws.{met}
use Rattle.som_model_laws.proofs.Lists.{every_mem, get_mem, mem_every}
use Rattle.som_model_laws.proofs.Members.{mem_right}
use Rattle.som_model_laws.proofs.Owners.{metaclass_known}
use Rattle.som_model_laws.proofs.Standing.{found, known_above}
use Rattle.som_verify_classes.specs.Plainly.{Differ}
use Rattle.som_release_laws.proofs.Facing.{tests}
use Rattle.som_release_laws.proofs.Facts.{object_of}
use Rattle.som_release_laws.proofs.Lists.{both_true}
use Rattle.som_release_laws.proofs.Prefix.{known_more, signature_same}
use Rattle.som_breach_laws.proofs.Moving.{Stands}
use Rattle.som_breach_laws.proofs.Pairs.{library_key}
use Rattle.som_witness.specs.Program.{call_on_c, one_class, plain_below, sig_g, variable_v, with_g, with_override, zero_values, zero_values_with}
use Rattle.som_witness.proofs.Fitting.{AreFine, adds_g, adds_override, adds_plain, none_fine, one_fine}
use Rattle.som_witness.proofs.Forms.{class_typed as object_typed, local_typed, variable_typed}
use Rattle.som_witness.proofs.Holding.{Adds, Holds, differ_none, differ_one, om, program_holds, up_more}
use Rattle.som_witness.proofs.Known.{sig_known, signature_known}
use Rattle.som_witness.proofs.WellTyped.{AreValues, answer_done, call_done, called, empty_done, g_done, main_done, override_done, passing_fits, passing_typed, return_done, set_done, value_some, zero_types, zero_types_with, zeros_fit, zeros_typed}

-- ---- facts of declared classes

facts_descent : (cs : List Class) (k a : ClassKey) → is_a cs k a ≡ true → (class_facts cs).is_a k a ≡ true
unfolding class_facts
facts_descent cs k a e = e

facts_signature : (cs : List Class) (r : MethodRef) → (class_facts cs).signature r ≡ sig_of cs (owner cs r)
unfolding class_facts
facts_signature cs r = refl

facts_known : (cs : List Class) (k : ClassKey) (c : Class) → class_at cs k ≡ Some c → (class_facts cs).is_known k ≡ true
unfolding class_facts
facts_known cs k c e = ap is_some e

facts_object : (cs : List Class) (k : ClassKey) → (class_facts cs).class_object k ≡ object_of (class_at cs k)
unfolding class_facts
facts_object cs k = refl

abbrev object_type : ClassKey → Typed
object_type k = Ok (Of (types.Class k))

void_nothing : (t : ValueType) → is_void t ≡ true → is_nothing (Of t) ≡ true
void_nothing types.Void e = refl
void_nothing types.Long e = e
void_nothing types.Boolean e = e
void_nothing types.Str e = e
void_nothing (types.Class k) e = e

some_thing : (t : ValueType) → is_void t ≡ false → is_nothing (Of t) ≡ false
some_thing types.Void e = e
some_thing types.Long e = refl
some_thing types.Boolean e = refl
some_thing types.Str e = refl
some_thing (types.Class k) e = refl

module _ (old : Interface) (so : Stands old) (holds : Holds old) (name : List ℕ) (free : (c : Class) → Mem c (release_of old) → name_of c ≡ name → ⊥) (c : Class) (m : Mem c (interface_classes old)) where
  abbrev olds : List Class
  olds = interface_classes old

  abbrev O : List Class
  O = release_of old

  abbrev oo : IsOrdered olds
  oo = so.load.ordered

  abbrev own : ClassDecl → Class
  own d = class_in modules.Client d

  abbrev more : ClassDecl → List Class
  more d = olds ++ own d ∷ []

  abbrev A : ClassDecl → List Class
  A d = kernel ++ more d

  abbrev w : ClassDecl → ClassFacts
  w d = class_facts (A d)

  abbrev K : ClassKey
  K = keys.Named modules.Library c.decl.face.name

  old_at : class_at O K ≡ Some c
  old_at = found olds oo c K (mem_right c kernel olds m) (library_key old c m)

  abbrev no_variables : Differ (λ (v : Variable). v.name) []
  no_variables = differ_none (λ (v : Variable). v.name) [] refl

  one_variable : (kind : ValueType) → Differ (λ (v : Variable). v.name) (variable_v kind)
  one_variable kind = differ_one (λ (v : Variable). v.name) (record { name = codes "v"; kind = kind })

  -- the program, of what its class breaks
  program_ok : (d : ClassDecl) → Adds old so holds d → class_typed (A d) (own d) ≡ [] → ProgramOk (one_class old d)
  program_ok d s typed = record {
    rules = program_holds old so holds d s;
    blocks = ap (λ (z : List RuleBreach). first ((z ++ []) ++ main_typed (A d) (record { statements = [] }))) typed ∙ ap (λ (z : List RuleBreach). first z) (main_done (w d));
  }

  module _ (d : ClassDecl) (s : Adds old so holds d) where
    abbrev ordered : IsOrdered (more d)
    ordered = om old so holds d s

    below : (k a : ClassKey) → Descends (hierarchy O) k a → (w d).is_a k a ≡ true
    below k a t = facts_descent (A d) k a (tests (more d) ordered k a (up_more old so holds d s k a t))

    same : (k : ClassKey) → (w d).is_a k k ≡ true
    same k = facts_descent (A d) k k (tests (more d) ordered k k itself)

    -- a type fits itself
    fits_itself : (t : ValueType) → fits (w d) t (Of t) ≡ true
    fits_itself types.Void = refl
    fits_itself types.Long = refl
    fits_itself types.Boolean = refl
    fits_itself types.Str = refl
    fits_itself (types.Class k) = same k

    method_sig : (x : List ℕ) (sig : Sig) → signature O K x ≡ Some sig → sig_of (A d) (owner (A d) (record { class = K; name = x })) ≡ Some sig
    method_sig x sig e = signature_same olds (own d ∷ []) ordered K x c old_at ∙ e

  class_value : (k : ClassKey) (y : Class) → class_at O k ≡ Some y → is_value_type O (types.Class k) ≡ true
  class_value k y e = ap is_some e

  -- a signature of known types
  sig_fine : (result : ValueType) (params : List ValueType) → is_known O result ≡ true → ((p : ValueType) → Mem p params → is_value_type O p ≡ true) → sig_known O (sig_g result params) ≡ true
  sig_fine result params a f = both_true (is_known O result) (every (is_value_type O) params) a (mem_every (is_value_type O) params f)

  -- C alone as a parameter
  only_c : (p : ValueType) → Mem p (types.Class K ∷ []) → is_value_type O p ≡ true
  only_c p n = elim n [ inl is ↦ subst (λ z. is_value_type O z ≡ true) (sym is) (class_value K c old_at) | inr z ↦ absurd z ]

  -- K1
  pub plain_ok : ProgramOk (one_class old (plain_below name K))
  plain_ok = program_ok (plain_below name K) (adds_plain old so holds name free c m) refl

  -- K3
  pub object_ok : (a : ClassKey) → Descends (hierarchy O) K a → ProgramOk (one_class old (with_g name (sig_g types.Void (types.Class K ∷ [])) (variable_v (types.Class a)) (stmts.SetVariable 0 (exprs.Local 0) ∷ [])))
  object_ok a t =
      let sig = sig_g types.Void (types.Class K ∷ []) in
      let vs = variable_v (types.Class a) in
      let set = stmts.SetVariable 0 (exprs.Local 0) in
      let d = with_g name sig vs (set ∷ []) in
      let up = known_above olds oo K a c old_at t in
      let s = adds_g old so holds name free sig (sig_fine types.Void (types.Class K ∷ []) refl only_c) vs (set ∷ []) (one_fine O (types.Class a) (class_value a up.0 up.1)) (one_variable (types.Class a)) in
      let at = in_body (own d) types.Void in
      program_ok d s (g_done (w d) (A d) name sig vs set sig.params
      (set_done (w d) at sig.params (exprs.Local 0) (Of (types.Class K)) (types.Class a) (local_typed (w d) at sig.params 0) refl refl (below d s K a t)))

  -- K6
  pub class_ok : (k : ClassKey) → c.decl.face.metaclass ≡ Some k → ProgramOk (one_class old (with_g name (sig_g (types.Class k) []) [] (stmts.ReturnValue (exprs.Class K) ∷ [])))
  class_ok k has =
      let sig = sig_g (types.Class k) [] in
      let back = stmts.ReturnValue (exprs.Class K) in
      let d = with_g name sig [] (back ∷ []) in
      let up = metaclass_known olds oo K c k old_at has in
      let s = adds_g old so holds name free sig (sig_fine (types.Class k) [] (class_value k up.0 up.1) (λ p n. absurd n)) [] (back ∷ []) (none_fine O) no_variables in
      let at = in_body (own d) (types.Class k) in
      let here = known_more olds (own d ∷ []) (om old so holds d s) K c old_at in
      let object : (w d).class_object K ≡ k = facts_object (A d) K ∙ ap object_of here ∙ ap (λ z. unwrap_or z som_class) has in
      let typed : expr_type (w d) at [] (exprs.Class K) ≡ Ok (Of (types.Class k)) =
      object_typed (w d) at [] K ∙ met 16 ((w d).is_known K) (Ok (Of (types.Class ((w d).class_object K)))) (facts_known (A d) K c here) ∙ ap object_type object in
      program_ok d s (g_done (w d) (A d) name sig [] back [] (answer_done (w d) at [] (exprs.Class K) (Of (types.Class k)) typed refl refl (fits_itself d s (types.Class k))))

  -- ---- a method of C

  module _ (x : List ℕ) (sig : Sig) (has : signature O K x ≡ Some sig) where
    abbrev method : MethodRef
    method = record { class = K; name = x }

    fine : sig_known O sig ≡ true
    fine = signature_known old so K x sig has

    result_known : is_known O sig.result ≡ true
    result_known = (both (is_known O sig.result) (every (is_value_type O) sig.params) fine).0

    param_value : (p : ValueType) → Mem p sig.params → is_value_type O p ≡ true
    param_value p n = every_mem (is_value_type O) p sig.params (both (is_known O sig.result) (every (is_value_type O) sig.params) fine).1 n

    param_some : AreValues sig.params
    param_some p n = is_false (is_void p) (both (not (is_void p)) (is_known O p) (param_value p n)).0

    -- a call on the first parameter
    call_typed_ok : (d : ClassDecl) → Adds old so holds d → (result : ValueType) (rest : List ValueType) (args : List Expr) (ts : List ExprType) → values (map (expr_type (w d) (in_body (own d) result) (types.Class K ∷ rest)) args) ≡ Ok ts
        → all_fit (w d) sig.params ts ≡ true → expr_type (w d) (in_body (own d) result) (types.Class K ∷ rest) (call_on_c method args) ≡ Ok (Of sig.result)
    call_typed_ok d s result rest args ts typed fit =
        called (w d) (in_body (own d) result) (types.Class K ∷ rest) method args ts sig (Of (types.Class K)) (local_typed (w d) (in_body (own d) result) (types.Class K ∷ rest) 0) refl typed
        (facts_signature (A d) method ∙ method_sig d s x sig has) (same d s K) fit

    zero_call_ok : (d : ClassDecl) → Adds old so holds d → (result : ValueType) → expr_type (w d) (in_body (own d) result) (types.Class K ∷ []) (call_on_c method (zero_values sig.params)) ≡ Ok (Of sig.result)
    zero_call_ok d s result =
        let at = in_body (own d) result in
        let scope = types.Class K ∷ [] in
        call_typed_ok d s result [] (zero_values sig.params) (zero_types sig.params) (zeros_typed (w d) at scope sig.params) (zeros_fit (w d) at scope sig.params param_some)

    -- K4 at a moved entry, and K5 where the numbers of parameters differ
    pub calls_ok : ProgramOk (one_class old (with_g name (sig_g types.Void (types.Class K ∷ [])) [] (stmts.Call (call_on_c method (zero_values sig.params)) ∷ [])))
    calls_ok =
        let sg = sig_g types.Void (types.Class K ∷ []) in
        let call = stmts.Call (call_on_c method (zero_values sig.params)) in
        let d = with_g name sg [] (call ∷ []) in
        let s = adds_g old so holds name free sg (sig_fine types.Void (types.Class K ∷ []) refl only_c) [] (call ∷ []) (none_fine O) no_variables in
        program_ok d s (g_done (w d) (A d) name sg [] call sg.params (call_done (w d) (in_body (own d) types.Void) sg.params method (zero_values sig.params) (Of sig.result) (zero_call_ok d s types.Void)))

    -- K5, a parameter
    pub passes_ok : (j : ℕ) (t : ValueType) → slice_get sig.params j ≡ Some t
        → ProgramOk (one_class old (with_g name (sig_g types.Void (types.Class K ∷ t ∷ [])) [] (stmts.Call (call_on_c method (zero_values_with j sig.params)) ∷ [])))
    passes_ok j t at_j =
        let ps = types.Class K ∷ t ∷ [] in
        let sg = sig_g types.Void ps in
        let n = get_mem sig.params j t at_j in
        let call = stmts.Call (call_on_c method (zero_values_with j sig.params)) in
        let d = with_g name sg [] (call ∷ []) in
        let s = adds_g old so holds name free sg (sig_fine types.Void ps refl (λ p q. elim q [
          | inl is ↦ only_c p (inl is)
          | inr r ↦ elim r [ inl is ↦ subst (λ z. is_value_type O z ≡ true) (sym is) (param_value t n) | inr z ↦ absurd z ]
        ])) [] (call ∷ []) (none_fine O) no_variables in
        let at = in_body (own d) types.Void in
        let here : value (expr_type (w d) at ps (exprs.Local 1)) ≡ Ok (Of t) = ap value (local_typed (w d) at ps 1) ∙ value_some t (param_some t n) in
        let typed = call_typed_ok d s types.Void (t ∷ []) (zero_values_with j sig.params) (zero_types_with j t sig.params) (passing_typed (w d) at ps t here j sig.params)
        (passing_fits (w d) at ps t (fits_itself d s t) j sig.params param_some at_j) in
        program_ok d s (g_done (w d) (A d) name sg [] call ps (call_done (w d) at ps method (zero_values_with j sig.params) (Of sig.result) typed))

    -- K5, the result, where W calls
    pub answer_ok : is_void sig.result ≡ false → ProgramOk (one_class old (with_g name (sig_g sig.result (types.Class K ∷ [])) [] (stmts.ReturnValue (call_on_c method (zero_values sig.params)) ∷ [])))
    answer_ok some =
        let sg = sig_g sig.result (types.Class K ∷ []) in
        let back = stmts.ReturnValue (call_on_c method (zero_values sig.params)) in
        let d = with_g name sg [] (back ∷ []) in
        let s = adds_g old so holds name free sg (sig_fine sig.result (types.Class K ∷ []) result_known only_c) [] (back ∷ []) (none_fine O) no_variables in
        let at = in_body (own d) sig.result in
        program_ok d s (g_done (w d) (A d) name sg [] back sg.params
        (answer_done (w d) at sg.params (call_on_c method (zero_values sig.params)) (Of sig.result) (zero_call_ok d s sig.result) (value_some sig.result some) (some_thing sig.result some) (fits_itself d s sig.result)))

    module _ (intro : introduces O x K ≡ true) where
      -- K4 of C's own method
      pub overrides_ok : ProgramOk (one_class old (with_override name method [] []))
      overrides_ok =
          let d = with_override name method [] [] in
          program_ok d (adds_override old so holds name free c m x intro [] [] (none_fine O) no_variables) (empty_done (w d) (A d) name method [])

      -- an override with one statement
      one_override : (vs : List Variable) (st : Stmt) → AreFine O vs → Differ (λ (v : Variable). v.name) vs
          → (Adds old so holds (with_override name method vs (st ∷ [])) → stmt_scope (w (with_override name method vs (st ∷ []))) (in_body (own (with_override name method vs (st ∷ []))) sig.result) st sig.params ≡ Ok sig.params)
          → ProgramOk (one_class old (with_override name method vs (st ∷ [])))
      one_override vs st f apart typed =
          let d = with_override name method vs (st ∷ []) in
          let s = adds_override old so holds name free c m x intro vs (st ∷ []) f apart in
          program_ok d s (override_done (w d) (A d) name method vs st sig sig.params (method_sig d s x sig has) (typed s))

      -- K5, a parameter that W keeps
      pub kept_ok : (j : ℕ) (t : ValueType) → slice_get sig.params j ≡ Some t → ProgramOk (one_class old (with_override name method (variable_v t) (stmts.SetVariable 0 (exprs.Local j) ∷ [])))
      kept_ok j t at_j =
          let n = get_mem sig.params j t at_j in
          let set = stmts.SetVariable 0 (exprs.Local j) in
          let d = with_override name method (variable_v t) (set ∷ []) in
          let at = in_body (own d) sig.result in
          one_override (variable_v t) set (one_fine O t (param_value t n)) (one_variable t)
          (λ s. set_done (w d) at sig.params (exprs.Local j) (Of t) t (local_typed (w d) at sig.params j ∙ ap (λ (o : Option ValueType). asked 16 o >>= λ kind. Ok (Of kind)) at_j) (value_some t (param_some t n)) refl (fits_itself d s t))

      -- K5, the result, where W overrides
      pub nothing_ok : is_void sig.result ≡ true → ProgramOk (one_class old (with_override name method [] (stmts.Return ∷ [])))
      nothing_ok void =
          let d = with_override name method [] (stmts.Return ∷ []) in
          one_override [] stmts.Return (none_fine O) no_variables (λ s. return_done (w d) (in_body (own d) sig.result) sig.params (void_nothing sig.result void))

      pub variable_ok : is_void sig.result ≡ false → ProgramOk (one_class old (with_override name method (variable_v sig.result) (stmts.ReturnValue (exprs.Variable 0) ∷ [])))
      variable_ok some =
          let back = stmts.ReturnValue (exprs.Variable 0) in
          let d = with_override name method (variable_v sig.result) (back ∷ []) in
          let at = in_body (own d) sig.result in
          one_override (variable_v sig.result) back (one_fine O sig.result (both_true (not (is_void sig.result)) (is_known O sig.result) (ap not some) result_known)) (one_variable sig.result)
          (λ s. answer_done (w d) at sig.params (exprs.Variable 0) (Of sig.result) (variable_typed (w d) at sig.params 0) (value_some sig.result some) (some_thing sig.result some) (fits_itself d s sig.result))
