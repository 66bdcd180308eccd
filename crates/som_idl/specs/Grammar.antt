-- The grammar of interface files. `IsFile text_at u f`: the tokens u are a file, and f is its tree, where text_at gives the text of the word at each place.
use Rattle.std.specs.Prelude.{◌≡◌, ◌≢◌, ℕ, Bool, true, false, ◌&&◌, List, [], ◌∷◌, ◌++◌, Option, Some, None}
use Rattle.som_lex.specs.Spelling.{is_word}
use Rattle.som_parse.specs.Languages.{Listed, Repeated, Kept}
use Rattle.som_parse.specs.Tokens.{word}
use Rattle.som_parse.specs.Words.{key_of}
use Rattle.som_parse.specs.declared.token.Key.{Key}
use Rattle.som_parse.specs.declared.token.Key.TheVariants as key
use Rattle.som_parse.specs.declared.token.Sign.TheVariants as sign
use Rattle.som_parse.specs.declared.token.Token.{Token}
use Rattle.som_parse.specs.declared.token.Token.TheVariants as token
use Rattle.som_ast.specs.declared.words.TypeName.{TypeName}
use Rattle.som_ast.specs.declared.words.TypeName.TheVariants as types
use Rattle.som_ast.specs.declared.words.Word.{Word}
use Rattle.som_ast.specs.declared.interface.Export.{Export}
use Rattle.som_ast.specs.declared.interface.Export.TheVariants as exports
use Rattle.som_ast.specs.declared.interface.IdlFile.{IdlFile}
use Rattle.som_ast.specs.declared.interface.IdlInterface.{IdlInterface}
use Rattle.som_ast.specs.declared.interface.Item.{Item}
use Rattle.som_ast.specs.declared.interface.Item.TheVariants as items
use Rattle.som_ast.specs.declared.interface.Modifier.{Modifier}
use Rattle.som_ast.specs.declared.interface.Modifier.TheVariants as modifiers
use Rattle.som_ast.specs.declared.interface.Param.{Param}

-- whether a word may be a name: it is neither refused nor one of these words, which always have their meaning
abbrev pub is_name : Key → Bool
is_name key.Refused = false
is_name key.Interface = false
is_name key.Attribute = false
is_name key.Readonly = false
is_name key.In = false
is_name key.Void = false
is_name key.Long = false
is_name key.Boolean = false
is_name key.Str = false
is_name key.Implementation = false
is_name key.True = false
is_name key.False = false
is_name _ = true

-- whether bytes are a NAME by themselves: they are a word, and it may be a name
abbrev pub is_name_text : List ℕ → Bool
is_name_text bytes = is_word bytes && is_name (key_of bytes)

module _ (text_at : ℕ → List ℕ) where
  -- NAME
  pub data IsName : List Token → Word → Type 0 where
    a_name : (k : Key) (p : ℕ) → is_name k ≡ true → IsName (token.Word k p ∷ []) (word text_at p)

  -- "long" | "boolean" | "string" | NAME
  pub data IsType : List Token → TypeName → Type 0 where
    type_long : {p : ℕ} → IsType (token.Word key.Long p ∷ []) types.Long
    type_boolean : {p : ℕ} → IsType (token.Word key.Boolean p ∷ []) types.Boolean
    type_string : {p : ℕ} → IsType (token.Word key.Str p ∷ []) types.Str
    type_class : {u : List Token} {n : Word} → IsName u n → IsType u (types.Class n)

  -- "void" | type
  pub data IsResult : List Token → Option TypeName → Type 0 where
    result_void : {p : ℕ} → IsResult (token.Word key.Void p ∷ []) None
    result_type : {u : List Token} {t : TypeName} → IsType u t → IsResult u (Some t)

  -- "in" type NAME
  pub data IsParam : List Token → Param → Type 0 where
    a_param : {p : ℕ} {u v : List Token} {t : TypeName} {n : Word} → IsType u t → IsName v n → IsParam (token.Word key.In p ∷ (u ++ v)) (record { kind = t; name = n })

  -- "(" [ param { "," param } ] ")"
  pub data IsParams : List Token → List Param → Type 0 where
    params_none : IsParams (token.Mark sign.Open ∷ token.Mark sign.Close ∷ []) []
    params_some : {u : List Token} {ps : List Param} → Listed IsParam u ps → IsParams (token.Mark sign.Open ∷ (u ++ token.Mark sign.Close ∷ [])) ps

  -- "attribute" type NAME { "," NAME } ";"
  pub data IsAttribute (readonly : Bool) : List Token → Export → Type 0 where
    an_attribute : {p : ℕ} {u v : List Token} {t : TypeName} {ns : List Word} → IsType u t → Listed IsName v ns
        → IsAttribute readonly (token.Word key.Attribute p ∷ (u ++ (v ++ token.Mark sign.Semicolon ∷ []))) (exports.Attribute readonly t ns)

  -- [ "readonly" ] attribute | result NAME params ";"
  pub data IsExport : List Token → Export → Type 0 where
    export_writable : {u : List Token} {e : Export} → IsAttribute false u e → IsExport u e
    export_readonly : {p : ℕ} {u : List Token} {e : Export} → IsAttribute true u e → IsExport (token.Word key.Readonly p ∷ u) e
    export_operation : {u v w : List Token} {t : Option TypeName} {n : Word} {ps : List Param} → IsResult u t → IsName v n → IsParams w ps
        → IsExport (u ++ (v ++ (w ++ token.Mark sign.Semicolon ∷ []))) (exports.Operation t n ps)

  -- "override" | "namelookup" | "offset" | "select" "=" NAME
  pub data IsModifier : List Token → Modifier → Type 0 where
    modifier_override : {p : ℕ} → IsModifier (token.Word key.Override p ∷ []) modifiers.Override
    modifier_namelookup : {p : ℕ} → IsModifier (token.Word key.NameLookup p ∷ []) modifiers.NameLookup
    modifier_offset : {p : ℕ} → IsModifier (token.Word key.Offset p ∷ []) modifiers.Offset
    modifier_select : {p : ℕ} {u : List Token} {n : Word} → IsName u n → IsModifier (token.Word key.Select p ∷ token.Mark sign.Assign ∷ u) (modifiers.Select n)

  -- [ NAME { "," NAME } ]
  pub data IsOrder : List Token → List Word → Type 0 where
    order_none : IsOrder [] []
    order_some : {u : List Token} {ns : List Word} → Listed IsName u ns → IsOrder u ns

  -- NAME | TEXT, which is left out of the tree
  pub data IsIgnored : List Token → Type 0 where
    ignored_name : {u : List Token} {n : Word} → IsName u n → IsIgnored u
    ignored_text : {p : ℕ} → IsIgnored (token.Literal p ∷ [])

  -- "filestem" | "dllname" | "functionprefix"
  pub data IsFileWord : Key → Type 0 where
    word_filestem : IsFileWord key.FileStem
    word_dllname : IsFileWord key.DllName
    word_functionprefix : IsFileWord key.FunctionPrefix

  -- An item, or none where it is left out of the tree. `releaseorder` before ":" always begins the first form.
  pub data IsItem : List Token → Option Item → Type 0 where
    -- "releaseorder" ":" [ NAME { "," NAME } ] ";"
    item_order : {p : ℕ} {u : List Token} {ns : List Word} → IsOrder u ns
        → IsItem (token.Word key.ReleaseOrder p ∷ token.Mark sign.Colon ∷ (u ++ token.Mark sign.Semicolon ∷ [])) (Some (items.ReleaseOrder ns))
    -- "metaclass" "=" NAME ";"
    item_metaclass : {p : ℕ} {u : List Token} {n : Word} → IsName u n
        → IsItem (token.Word key.Metaclass p ∷ token.Mark sign.Assign ∷ (u ++ token.Mark sign.Semicolon ∷ [])) (Some (items.Metaclass n))
    -- ( "majorversion" | "minorversion" ) "=" NUMBER ";"
    item_major : {p n : ℕ} → IsItem (token.Word key.MajorVersion p ∷ token.Mark sign.Assign ∷ token.Number n ∷ token.Mark sign.Semicolon ∷ []) (Some (items.Major n))
    item_minor : {p n : ℕ} → IsItem (token.Word key.MinorVersion p ∷ token.Mark sign.Assign ∷ token.Number n ∷ token.Mark sign.Semicolon ∷ []) (Some (items.Minor n))
    -- ( "filestem" | "dllname" | "functionprefix" ) "=" ( NAME | TEXT ) ";"
    item_ignored : {k : Key} {p : ℕ} {u : List Token} → IsFileWord k → IsIgnored u
        → IsItem (token.Word k p ∷ token.Mark sign.Assign ∷ (u ++ token.Mark sign.Semicolon ∷ [])) None
    -- NAME ":" modifier { "," modifier } ";"
    item_method : (k : Key) (p : ℕ) {u : List Token} {ms : List Modifier} → is_name k ≡ true → k ≢ key.ReleaseOrder → Listed IsModifier u ms
        → IsItem (token.Word k p ∷ token.Mark sign.Colon ∷ (u ++ token.Mark sign.Semicolon ∷ [])) (Some (items.Method (word text_at p) ms))
    -- type NAME { "," NAME } ";"
    item_variables : {u v : List Token} {t : TypeName} {ns : List Word} → IsType u t → Listed IsName v ns
        → IsItem (u ++ (v ++ token.Mark sign.Semicolon ∷ [])) (Some (items.Variables t ns))

  -- [ "implementation" "{" { item } "}" ";" { export } ]
  pub data IsSection : List Token → List Item × List Export → Type 0 where
    section_none : IsSection [] ([], [])
    section_some : {p : ℕ} {u v : List Token} {is : List Item} {es : List Export} → Repeated IsItem u is → Repeated (Kept IsExport) v es
        → IsSection (token.Word key.Implementation p ∷ token.Mark sign.OpenBrace ∷ (u ++ token.Mark sign.CloseBrace ∷ token.Mark sign.Semicolon ∷ v)) (is, es)

  -- [ ":" NAME { "," NAME } ]
  pub data IsParents : List Token → List Word → Type 0 where
    parents_none : IsParents [] []
    parents_some : {u : List Token} {ns : List Word} → Listed IsName u ns → IsParents (token.Mark sign.Colon ∷ u) ns

  -- "interface" NAME parents "{" { export } section "}" ";", or the forward declaration "interface" NAME ";", which is left out of the tree
  pub data IsEntry : List Token → Option IdlInterface → Type 0 where
    entry_interface : {p : ℕ} {u v w x : List Token} {n : Word} {ps : List Word} {es : List Export} {s : List Item × List Export}
        → IsName u n → IsParents v ps → Repeated (Kept IsExport) w es → IsSection x s
        → IsEntry (token.Word key.Interface p ∷ (u ++ (v ++ token.Mark sign.OpenBrace ∷ (w ++ (x ++ token.Mark sign.CloseBrace ∷ token.Mark sign.Semicolon ∷ [])))))
        (Some (record { name = n; parents = ps; before = es; items = s.0; after = s.1 }))
    entry_forward : {p : ℕ} {u : List Token} {n : Word} → IsName u n → IsEntry (token.Word key.Interface p ∷ (u ++ token.Mark sign.Semicolon ∷ [])) None

  -- { interface | forward }
  pub data IsFile : List Token → IdlFile → Type 0 where
    a_file : {u : List Token} {is : List IdlInterface} → Repeated IsEntry u is → IsFile u (record { interfaces = is })
