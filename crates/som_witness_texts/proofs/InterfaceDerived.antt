-- The grammar derives the interface's tree of the tokens of its pieces.
use Rattle.std.proofs.Common.{◌≡◌, ◌≢◌, ℕ, ◌+◌, true, List, [], ◌∷◌, ◌++◌, Option, Some, None, refl, subst}
use Rattle.std.specs.Prelude.{⊤, codes}
use Rattle.som_model.specs.declared.key.ClassKey.{ClassKey}
use Rattle.som_model.specs.declared.key.MethodRef.{MethodRef}
use Rattle.som_model.specs.declared.key.ValueType.{ValueType}
use Rattle.som_model.specs.declared.key.ValueType.TheVariants as types
use Rattle.som_lex_laws.specs.Pieces.{bytes_at, seen_in}
use Rattle.som_parse.specs.Languages.{Repeated, Kept, the_first, the_next, nothing_yet, one_kept, it_is_kept}
use Rattle.som_parse.specs.Words.{key_of, sign_of, is_refused_declaration, is_refused_type, is_refused_modifier, interface_word, statement_word, expression_word, type_word}
use Rattle.som_parse.specs.declared.token.Key.{Key}
use Rattle.som_parse.specs.declared.token.Key.TheVariants as key
use Rattle.som_parse.specs.declared.token.Sign.TheVariants as sign
use Rattle.som_parse.specs.declared.token.Token.{Token}
use Rattle.som_parse.specs.declared.token.Token.TheVariants as token
use Rattle.som_ast.specs.declared.words.TypeName.{TypeName}
use Rattle.som_ast.specs.declared.interface.Export.{Export}
use Rattle.som_ast.specs.declared.interface.Item.{Item}
use Rattle.som_ast.specs.declared.interface.Param.{Param}
use Rattle.som_idl.specs.Grammar as g
use Rattle.som_witness.specs.Showings.{Showing, StandsBelow, KeepsObject, Overrides, CallsSlot, Calls, Passes, KeepsParameter, ReturnsNothing, ReturnsVariable, ReturnsAnswer, ReturnsClass}
use Rattle.som_witness.specs.Wording.{class_text, type_text}
use Rattle.som_witness_texts.specs.Trees.{word_at, type_at, result_at, param_at, param_c, operation_g, variable_v, override_of, interface_with, idl_tree}
use Rattle.som_witness_texts.proofs.TextPieces.{idl_pieces}

-- a type that stands where no void may, with a name of an interface file where it is a class
abbrev pub IsWritten : ValueType → Type 0
IsWritten types.Void = ⊥
IsWritten types.Long = ⊤
IsWritten types.Boolean = ⊤
IsWritten types.Str = ⊤
IsWritten (types.Class k) = g.is_name (key_of (class_text k)) ≡ true

-- a result, with a name of an interface file where it is a class
abbrev pub IsResult : ValueType → Type 0
IsResult types.Void = ⊤
IsResult types.Long = ⊤
IsResult types.Boolean = ⊤
IsResult types.Str = ⊤
IsResult (types.Class k) = g.is_name (key_of (class_text k)) ≡ true

-- the class is named, and so is the method, which may be overridden
abbrev pub IsOver : MethodRef → Type 0
IsOver m = (g.is_name (key_of (class_text m.class)) ≡ true) × (g.is_name (key_of m.name) ≡ true) × (key_of m.name ≢ key.ReleaseOrder)

-- what has to be a name of an interface file, by how the breach is shown
abbrev pub AreNames : MethodRef → Showing → Type 0
AreNames m StandsBelow = g.is_name (key_of (class_text m.class)) ≡ true
AreNames m (KeepsObject a) = (g.is_name (key_of (class_text m.class)) ≡ true) × (g.is_name (key_of (class_text a)) ≡ true)
AreNames m (Overrides params) = IsOver m
AreNames m (CallsSlot params) = ⊥
AreNames m (Calls params) = g.is_name (key_of (class_text m.class)) ≡ true
AreNames m (Passes params j kind) = (g.is_name (key_of (class_text m.class)) ≡ true) × IsWritten kind
AreNames m (KeepsParameter params j kind) = IsOver m × IsWritten kind
AreNames m (ReturnsNothing params) = IsOver m
AreNames m (ReturnsVariable params kind) = IsOver m × IsWritten kind
AreNames m (ReturnsAnswer params kind) = (g.is_name (key_of (class_text m.class)) ≡ true) × IsResult kind
AreNames m (ReturnsClass k) = g.is_name (key_of (class_text k)) ≡ true

module _ (text_at : ℕ → List ℕ) where
  name_here : (k : Key) (p : ℕ) (bs : List ℕ) → g.is_name k ≡ true → text_at p ≡ bs → g.IsName text_at (token.Word k p ∷ []) (word_at p bs)
  name_here k p bs e same = subst (λ (t : List ℕ). g.IsName text_at (token.Word k p ∷ []) (word_at p t)) same (g.a_name k p e)

  type_here : (p : ℕ) (kind : ValueType) → IsWritten kind → text_at p ≡ type_text kind → g.IsType text_at (token.Word (key_of (type_text kind)) p ∷ []) (type_at p kind)
  unfolding is_refused_declaration is_refused_type is_refused_modifier type_word interface_word statement_word expression_word
  type_here p types.Void h same = absurd h
  type_here p types.Long h same = g.type_long
  type_here p types.Boolean h same = g.type_boolean
  type_here p types.Str h same = g.type_string
  type_here p (types.Class k) h same = g.type_class (name_here (key_of (class_text k)) p (class_text k) h same)

  result_here : (p : ℕ) (kind : ValueType) → IsResult kind → text_at p ≡ type_text kind → g.IsResult text_at (token.Word (key_of (type_text kind)) p ∷ []) (result_at p kind)
  unfolding is_refused_declaration is_refused_type is_refused_modifier type_word interface_word statement_word expression_word
  result_here p types.Void h same = g.result_void
  result_here p types.Long h same = g.result_type g.type_long
  result_here p types.Boolean h same = g.result_type g.type_boolean
  result_here p types.Str h same = g.result_type g.type_string
  result_here p (types.Class k) h same = g.result_type (g.type_class (name_here (key_of (class_text k)) p (class_text k) h same))

  -- ---- the whole

  derived : (k n : Key) (w parent : List ℕ) (u x : List Token) (es : List Export) (is : List Item) → g.is_name k ≡ true → g.is_name n ≡ true → text_at 1 ≡ w → text_at 3 ≡ parent
      → Repeated (Kept (g.IsExport text_at)) u es → g.IsSection text_at x (is, [])
      → g.IsFile text_at (token.Word key.Interface 0 ∷ token.Word k 1 ∷ token.Mark sign.Colon ∷ token.Word n 3 ∷ token.Mark sign.OpenBrace ∷ (u ++ (x ++ token.Mark sign.CloseBrace ∷ token.Mark sign.Semicolon ∷ [])))
      (record { interfaces = interface_with w parent es is ∷ [] })
  derived k n w parent u x es is e f same there exports section =
      g.a_file (one_kept nothing_yet (g.entry_interface (name_here k 1 w e same) (g.parents_some (the_first (name_here n 3 parent f there))) exports section))

  -- ---- sections

  variable_here : (p : ℕ) (kind : ValueType) → IsWritten kind → text_at p ≡ type_text kind → text_at (p + 1) ≡ codes "v"
      → g.IsItem text_at (token.Word (key_of (type_text kind)) p ∷ token.Word key.Plain (p + 1) ∷ token.Mark sign.Semicolon ∷ []) (Some (variable_v p kind))
  variable_here p kind h same there = g.item_variables (type_here p kind h same) (the_first (name_here key.Plain (p + 1) (codes "v") refl there))

  override_here : (k : Key) (m : List ℕ) → g.is_name k ≡ true → k ≢ key.ReleaseOrder → text_at 7 ≡ m
      → g.IsItem text_at (token.Word k 7 ∷ token.Mark sign.Colon ∷ token.Word key.Override 9 ∷ token.Mark sign.Semicolon ∷ []) (Some (override_of m))
  override_here k m e differs same =
      subst (λ (t : List ℕ). g.IsItem text_at (token.Word k 7 ∷ token.Mark sign.Colon ∷ token.Word key.Override 9 ∷ token.Mark sign.Semicolon ∷ []) (Some (override_of t))) same
      (g.item_method k 7 e differs (the_first g.modifier_override))

  section_of : (p : ℕ) (u : List Token) (is : List Item) → Repeated (g.IsItem text_at) u is
      → g.IsSection text_at (token.Word key.Implementation p ∷ token.Mark sign.OpenBrace ∷ (u ++ token.Mark sign.CloseBrace ∷ token.Mark sign.Semicolon ∷ [])) (is, [])
  section_of p u is items = g.section_some items nothing_yet

  -- ---- the method g

  param_here : (p : ℕ) (kind : ValueType) (k : Key) (bs : List ℕ) → IsWritten kind → g.is_name k ≡ true → text_at p ≡ type_text kind → text_at (p + 1) ≡ bs → (q : ℕ)
      → g.IsParam text_at (token.Word key.In q ∷ token.Word (key_of (type_text kind)) p ∷ token.Word k (p + 1) ∷ []) (param_at p kind bs)
  param_here p kind k bs h e same there q = g.a_param (type_here p kind h same) (name_here k (p + 1) bs e there)

  c_here : (c : ClassKey) → g.is_name (key_of (class_text c)) ≡ true → text_at 9 ≡ class_text c → text_at 10 ≡ codes "c"
      → g.IsParam text_at (token.Word key.In 8 ∷ token.Word (key_of (class_text c)) 9 ∷ token.Word key.Plain 10 ∷ []) (param_c c)
  c_here c e same there = param_here 9 (types.Class c) key.Plain (codes "c") e refl same there 8

  g_here : (t : Token) (r : Option TypeName) (w : List Token) (ps : List Param) → g.IsResult text_at (t ∷ []) r → g.IsParams text_at w ps → text_at 6 ≡ codes "g"
      → Repeated (Kept (g.IsExport text_at)) (t ∷ token.Word key.Plain 6 ∷ (w ++ token.Mark sign.Semicolon ∷ [])) (operation_g r ps ∷ [])
  g_here t r w ps result params same = one_kept nothing_yet (it_is_kept (g.export_operation result (name_here key.Plain 6 (codes "g") refl same) params))

  -- the parameter c alone
  g_of_c : (t : Token) (r : Option TypeName) (c : ClassKey) → g.IsResult text_at (t ∷ []) r → g.is_name (key_of (class_text c)) ≡ true → text_at 6 ≡ codes "g" → text_at 9 ≡ class_text c → text_at 10 ≡ codes "c"
      → Repeated (Kept (g.IsExport text_at)) (t ∷ token.Word key.Plain 6 ∷ token.Mark sign.Open ∷ token.Word key.In 8 ∷ token.Word (key_of (class_text c)) 9 ∷ token.Word key.Plain 10 ∷ token.Mark sign.Close ∷ token.Mark sign.Semicolon ∷ [])
      (operation_g r (param_c c ∷ []) ∷ [])
  g_of_c t r c result e same class_ there =
      g_here t r (token.Mark sign.Open ∷ token.Word key.In 8 ∷ token.Word (key_of (class_text c)) 9 ∷ token.Word key.Plain 10 ∷ token.Mark sign.Close ∷ []) (param_c c ∷ []) result (g.params_some (the_first (c_here c e class_ there))) same

  -- ---- by how the breach is shown

  module _ (w : List ℕ) (m : MethodRef) (named : g.is_name (key_of w) ≡ true) where
    abbrev Derives : Showing → Type 0
    Derives s = ((p : ℕ) → text_at p ≡ bytes_at p (idl_pieces w m s)) → AreNames m s → g.IsFile text_at (seen_in 0 (idl_pieces w m s)) (idl_tree w m s)

    over_derived : (params : List ValueType) → Derives (Overrides params)
    unfolding is_refused_declaration is_refused_type is_refused_modifier type_word interface_word statement_word expression_word sign_of
    over_derived params h n =
        derived (key_of w) (key_of (class_text m.class)) w (class_text m.class) [] _ [] (override_of m.name ∷ []) named n.0 (h 1) (h 3) nothing_yet
        (section_of 5 _ (override_of m.name ∷ []) (one_kept nothing_yet (override_here (key_of m.name) m.name n.1 n.2 (h 7))))

    over_variable_derived : (params : List ValueType) (kind : ValueType) → IsOver m → IsWritten kind → ((p : ℕ) → text_at p ≡ bytes_at p (idl_pieces w m (ReturnsVariable params kind)))
        → g.IsFile text_at (seen_in 0 (idl_pieces w m (ReturnsVariable params kind))) (idl_tree w m (ReturnsVariable params kind))
    unfolding is_refused_declaration is_refused_type is_refused_modifier type_word interface_word statement_word expression_word sign_of
    over_variable_derived params kind n k h =
        derived (key_of w) (key_of (class_text m.class)) w (class_text m.class) [] _ [] (override_of m.name ∷ variable_v 11 kind ∷ []) named n.0 (h 1) (h 3) nothing_yet
        (section_of 5 _ (override_of m.name ∷ variable_v 11 kind ∷ []) (one_kept (one_kept nothing_yet (override_here (key_of m.name) m.name n.1 n.2 (h 7))) (variable_here 11 kind k (h 11) (h 12))))

    calls_derived : (params : List ValueType) → Derives (Calls params)
    unfolding is_refused_declaration is_refused_type is_refused_modifier type_word interface_word statement_word expression_word sign_of
    calls_derived params h n =
        derived (key_of w) key.Plain w (codes "SOMObject") _ [] (operation_g None (param_c m.class ∷ []) ∷ []) [] named refl (h 1) (h 3)
        (g_of_c (token.Word key.Void 5) None m.class g.result_void n (h 6) (h 9) (h 10)) g.section_none

    pub idl_derived : (s : Showing) → Derives s
    unfolding is_refused_declaration is_refused_type is_refused_modifier type_word interface_word statement_word expression_word sign_of
    idl_derived StandsBelow h n = derived (key_of w) (key_of (class_text m.class)) w (class_text m.class) [] [] [] [] named n (h 1) (h 3) nothing_yet g.section_none
    idl_derived (KeepsObject a) h n =
        derived (key_of w) key.Plain w (codes "SOMObject") _ _ (operation_g None (param_c m.class ∷ []) ∷ []) (variable_v 15 (types.Class a) ∷ []) named refl (h 1) (h 3)
        (g_of_c (token.Word key.Void 5) None m.class g.result_void n.0 (h 6) (h 9) (h 10))
        (section_of 13 _ (variable_v 15 (types.Class a) ∷ []) (one_kept nothing_yet (variable_here 15 (types.Class a) n.1 (h 15) (h 16))))
    idl_derived (Overrides params) h n = over_derived params h n
    idl_derived (CallsSlot params) h n = absurd n
    idl_derived (Calls params) h n = calls_derived params h n
    idl_derived (Passes params j kind) h n =
        derived (key_of w) key.Plain w (codes "SOMObject") _ [] (operation_g None (param_c m.class ∷ param_at 13 kind (codes "x") ∷ []) ∷ []) [] named refl (h 1) (h 3)
        (g_here (token.Word key.Void 5) None _ (param_c m.class ∷ param_at 13 kind (codes "x") ∷ []) g.result_void
        (g.params_some (the_next (the_first (c_here m.class n.0 (h 9) (h 10))) (param_here 13 kind key.Plain (codes "x") n.1 refl (h 13) (h 14) 12))) (h 6)) g.section_none
    idl_derived (KeepsParameter params j kind) h n = over_variable_derived params kind n.0 n.1 h
    idl_derived (ReturnsNothing params) h n = over_derived params h n
    idl_derived (ReturnsVariable params kind) h n = over_variable_derived params kind n.0 n.1 h
    idl_derived (ReturnsAnswer params kind) h n =
        derived (key_of w) key.Plain w (codes "SOMObject") _ [] (operation_g (result_at 5 kind) (param_c m.class ∷ []) ∷ []) [] named refl (h 1) (h 3)
        (g_of_c (token.Word (key_of (type_text kind)) 5) (result_at 5 kind) m.class (result_here 5 kind n.1 (h 5)) n.0 (h 6) (h 9) (h 10)) g.section_none
    idl_derived (ReturnsClass k) h n =
        derived (key_of w) key.Plain w (codes "SOMObject") _ [] (operation_g (result_at 5 (types.Class k)) [] ∷ []) [] named refl (h 1) (h 3)
        (g_here (token.Word (key_of (class_text k)) 5) (result_at 5 (types.Class k)) (token.Mark sign.Open ∷ token.Mark sign.Close ∷ []) [] (result_here 5 (types.Class k) n (h 5)) g.params_none (h 6)) g.section_none
