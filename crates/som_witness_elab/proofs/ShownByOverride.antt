-- The texts of W that overrides a method of C stand for W, in each way in which it shows a breach.
use Rattle.std.proofs.Common.{◌≡◌, ℕ, zero, suc, ◌+◌, ◌<◌, ◌^◌, Bool, true, false, not, if◌then◌else◌, List, [], ◌∷◌, length, slice_get, Option, Some, None, Ok, Err, refl, sym, ap, ◌∙◌, arith, true≢false}
use Rattle.std.specs.Prelude.{codes}
use Rattle.som_model.specs.declared.key.Module.TheVariants as modules
use Rattle.som_model.specs.declared.key.ClassKey.{ClassKey}
use Rattle.som_model.specs.declared.key.ClassKey.TheVariants as keys
use Rattle.som_model.specs.declared.key.MethodRef.{MethodRef}
use Rattle.som_model.specs.declared.key.ValueType.{ValueType}
use Rattle.som_model.specs.declared.key.ValueType.TheVariants as types
use Rattle.som_model.specs.declared.class.Override.{Override}
use Rattle.som_model.specs.declared.class.Sig.{Sig}
use Rattle.som_model.specs.declared.class.Variable.{Variable}
use Rattle.som_model.specs.declared.class.ClassDecl.{ClassDecl}
use Rattle.som_model.specs.declared.program.Interface.{Interface}
use Rattle.som_model.specs.declared.syntax.Stmt.{Stmt}
use Rattle.som_model.specs.declared.syntax.Expr.TheVariants as exprs
use Rattle.som_model.specs.declared.syntax.Stmt.TheVariants as stmts
use Rattle.som_model.specs.Lists.{Mem, every}
use Rattle.som_model.specs.Steps.{◌>>=◌}
use Rattle.som_model.specs.Class.{Class, class_in}
use Rattle.som_model.specs.Classes.{interface_classes}
use Rattle.som_model.specs.Owner.{introduces}
use Rattle.som_model.specs.Rules.{is_known, is_value_type, is_void, name_of}
use Rattle.som_model.specs.Compatible.{release_of, signature}
use Rattle.som_model.specs.Typing.{CodePlace, Of, in_body, is_nothing, local_type, there as asked_for}
use Rattle.som_model.proofs.KeyLaws.{both}
use Rattle.som_model.proofs.ListLaws.{is_false}
use Rattle.som_model_laws.proofs.Lists.{every_mem, get_mem}
use Rattle.som_release_laws.proofs.Lists.{both_true}
use Rattle.som_breach_laws.proofs.Moving.{Stands}
use Rattle.som_ast.specs.declared.body.StmtText.{StmtText}
use Rattle.som_ast.specs.declared.body.StmtText.TheVariants as statement
use Rattle.som_ast.specs.declared.expression.ExprText.TheVariants as texts
use Rattle.som_elab_body.specs.Expressions.{Among, facts_among}
use Rattle.som_elab_body.specs.Locals.{Names}
use Rattle.som_elab_body.specs.MethodBody.{elaborated_body, parameters}
use Rattle.som_elab_body.specs.Statements.{Breaks, elaborated_block}
use Rattle.som_elab.specs.Elaboration.{elaborated_program}
use Rattle.som_witness.specs.Program.{one_class, variable_v, with_override}
use Rattle.som_witness.specs.Showings.{KeepsParameter, Overrides, ReturnsNothing, ReturnsVariable, StandsBelow}
use Rattle.som_witness.specs.Wording.{class_text}
use Rattle.som_witness.proofs.Fitting.{none_fine, one_fine}
use Rattle.som_witness.proofs.Holding.{Holds, differ_none, differ_one}
use Rattle.som_witness.proofs.Known.{sig_known, signature_known}
use Rattle.som_witness_texts.specs.Trees.{block_of, body_tree, first_statement, interface_with, keep_parameter, name_at, override_of as override_item, parameter_words, return_v, variable_v as variable_item, word_at}
use Rattle.som_witness_elab.proofs.Below.{is_itself, w_below}
use Rattle.som_witness_elab.proofs.Forms.{answer_states, local_comes, none_stated, one_stated, return_states, set_states, valued_part, variable_comes}
use Rattle.som_witness_elab.proofs.Items.{no_variable, one_variable}
use Rattle.som_witness_elab.proofs.Names.{module_named, type_named}
use Rattle.som_witness_elab.proofs.Overriding.{in_old, made_over, made_plain}
use Rattle.som_witness_elab.proofs.Params.{as_many, kinds_are, local_here, none_twice, parameter}
use Rattle.som_witness_elab.proofs.ShownByG.{StandFor, fits_itself, some_thing}
use Rattle.som_witness_elab.proofs.Whole.{among_with, empty_main}

void_nothing : (t : ValueType) → is_void t ≡ true → is_nothing (Of t) ≡ true
void_nothing types.Void e = refl
void_nothing types.Long e = absurd (true≢false (sym e))
void_nothing types.Boolean e = absurd (true≢false (sym e))
void_nothing types.Str e = absurd (true≢false (sym e))
void_nothing (types.Class k) e = absurd (true≢false (sym e))

within_length : {A : Type 0} (xs : List A) (j : ℕ) (x : A) → slice_get xs j ≡ Some x → j < length xs
within_length [] j x e = absurd (cc)
within_length (y ∷ ys) zero x e = omega arith
within_length (y ∷ ys) (suc j) x e = let r = within_length ys j x e in omega (arith, r)

module _ (old : Interface) (so : Stands old) (holds : Holds old) (name : List ℕ) (free : (c : Class) → Mem c (release_of old) → name_of c ≡ name → ⊥) (c : Class) (m : Mem c (interface_classes old)) where
  abbrev O : List Class
  O = release_of old

  abbrev K : ClassKey
  K = keys.Named modules.Library c.decl.face.name

  abbrev method : List ℕ → MethodRef
  method x = record { class = K; name = x }

  -- K1
  pub stands_below : (x : List ℕ) → StandFor old name (method x) StandsBelow
  stands_below x = made_plain old so holds name free c m

  module _ (x : List ℕ) (s : Sig) (has : signature O K x ≡ Some s) (intro : introduces O x K ≡ true) (small : length s.params < 2 ^ 64) where
    known : sig_known O s ≡ true
    known = signature_known old so K x s has

    result_known : is_known O s.result ≡ true
    result_known = (both (is_known O s.result) (every (is_value_type O) s.params) known).0

    param_value : (p : ValueType) → Mem p s.params → is_value_type O p ≡ true
    param_value p n = every_mem (is_value_type O) p s.params (both (is_known O s.result) (every (is_value_type O) s.params) known).1 n

    value_some : (p : ValueType) → is_value_type O p ≡ true → is_void p ≡ false
    value_some p e = is_false (is_void p) (both (not (is_void p)) (is_known O p) e).0

    abbrev scope : Names
    scope = parameters (parameter_words 4 0 s.params) s.params

    abbrev o : Override
    o = record { method = record { class = c.key; name = x }; block = record { statements = [] } }

    abbrev d : List Variable → ClassDecl
    d vs = w_below name c.key [] vs (o ∷ [])

    abbrev a : List Variable → Among
    a vs = among_with old name (d vs)

    abbrev at : List Variable → CodePlace
    at vs = in_body (class_in modules.Client (d vs)) s.result

    same : (vs : List Variable) (k : ClassKey) → (facts_among (a vs)).is_a k k ≡ true
    same vs = is_itself old so holds name c (in_old old so holds name free c m) [] (λ y to z. z) vs (o ∷ [])

    -- the parameters differ, and the block follows
    body_is : (vs : List Variable) (ts : List StmtText) (ss : List Stmt) → elaborated_block (a vs) (at vs) (block_of ts) scope ≡ Ok (record { statements = ss })
        → elaborated_body (a vs) (class_in modules.Client (d vs)) s (body_tree name x (parameter_words 4 0 s.params) ts) ≡ Ok (record { statements = ss })
    body_is vs ts ss e = ap (λ (t : Bool). if t then Err (Breaks 15) else elaborated_block (a vs) (at vs) (block_of ts) scope) (none_twice 4 s.params small) ∙ e

    -- K4 of a method of C's own
    pub overrides : StandFor old name (method x) (Overrides s.params)
    overrides = made_over old so holds name free c m x s has intro [] [] (none_fine O) (differ_none (λ (v : Variable). v.name) [] refl) (no_variable (module_named old name))
        (parameter_words 4 0 s.params) [] (as_many 4 0 s.params) [] (body_is [] [] [] (none_stated (a []) (at []) scope))

    -- K5, the result, where the old one is void
    pub returns_nothing : is_void s.result ≡ true → StandFor old name (method x) (ReturnsNothing s.params)
    returns_nothing void = made_over old so holds name free c m x s has intro [] [] (none_fine O) (differ_none (λ (v : Variable). v.name) [] refl) (no_variable (module_named old name))
        (parameter_words 4 0 s.params) (statement.Return None ∷ []) (as_many 4 0 s.params) (stmts.Return ∷ [])
        (body_is [] (statement.Return None ∷ []) (stmts.Return ∷ []) (one_stated (a []) (at []) scope (statement.Return None) stmts.Return (return_states (a []) (at []) scope (void_nothing s.result void))))

    -- with the variable v
    with_variable : (kind : ValueType) → is_value_type O kind ≡ true → (t : StmtText) (st : Stmt) → elaborated_block (a (variable_v kind)) (at (variable_v kind)) (block_of (t ∷ [])) scope ≡ Ok (record { statements = st ∷ [] })
        → elaborated_program old (interface_with name (class_text K) [] (override_item x ∷ variable_item 11 kind ∷ []) ∷ []) (body_tree name x (parameter_words 4 0 s.params) (t ∷ []) ∷ []) empty_main
        ≡ Ok (one_class old (with_override name (method x) (variable_v kind) (st ∷ [])))
    with_variable kind value t st e = made_over old so holds name free c m x s has intro (variable_item 11 kind ∷ []) (variable_v kind) (one_fine O kind value) (differ_one (λ (v : Variable). v.name) (record { name = codes "v"; kind = kind }))
        (one_variable (module_named old name) 11 kind (type_named old so holds name free 11 kind value))
        (parameter_words 4 0 s.params) (t ∷ []) (as_many 4 0 s.params) (st ∷ []) (body_is (variable_v kind) (t ∷ []) (st ∷ []) e)

    -- K5, a parameter
    pub keeps_parameter : (j : ℕ) (t : ValueType) → slice_get s.params j ≡ Some t → StandFor old name (method x) (KeepsParameter s.params j t)
    keeps_parameter j t at_j =
        let vs = variable_v t in
        let p = first_statement (length s.params) in
        let value = param_value t (get_mem s.params j t at_j) in
        let kind = ap (λ (z : List ValueType). local_type z j) (kinds_are 4 0 s.params) ∙ ap (λ (z : Option ValueType). asked_for 16 z >>= λ kind. Ok (Of kind)) at_j in
        let local = local_comes (a vs) (at vs) scope (word_at (p + 4) (parameter j)) j t (local_here 4 j s.params (within_length s.params j t at_j) small) kind in
        let part = valued_part (a vs) (at vs) scope (name_at (p + 4) (parameter j)) (exprs.Local j) (Of t) local (some_thing t (value_some t value)) in
        with_variable t value (keep_parameter p j) (stmts.SetVariable 0 (exprs.Local j))
        (one_stated (a vs) (at vs) scope (keep_parameter p j) (stmts.SetVariable 0 (exprs.Local j))
        (set_states (a vs) (at vs) scope (word_at (p + 2) (codes "v")) (name_at (p + 4) (parameter j)) (exprs.Local j) (Of t) t part refl refl (fits_itself (facts_among (a vs)) (same vs) t)))

    -- K5, the result, which the new one fits
    pub returns_variable : is_void s.result ≡ false → StandFor old name (method x) (ReturnsVariable s.params s.result)
    returns_variable some =
        let kind = s.result in
        let vs = variable_v kind in
        let p = first_statement (length s.params) in
        let value : is_value_type O kind ≡ true = both_true (not (is_void kind)) (is_known O kind) (ap not some) result_known in
        let e = texts.Variable (word_at (p + 3) (codes "v")) in
        let thing = some_thing kind some in
        let part = valued_part (a vs) (at vs) scope e (exprs.Variable 0) (Of kind) (variable_comes (a vs) (at vs) scope (word_at (p + 3) (codes "v")) 0 kind refl refl) thing in
        with_variable kind value (return_v p) (stmts.ReturnValue (exprs.Variable 0))
        (one_stated (a vs) (at vs) scope (return_v p) (stmts.ReturnValue (exprs.Variable 0))
        (answer_states (a vs) (at vs) scope e (exprs.Variable 0) (Of kind) part thing (fits_itself (facts_among (a vs)) (same vs) kind)))
