-- The readers of the grammar, with one token in hand.
use Rattle.std.specs.Prelude.{ℕ, Bool, true, false, if◌then◌else◌, List, [], Option, Some, None}
use Rattle.som_parse.specs.Readers.{Parser, ◌>>=◌, ◌>>◌, pure, when, after, expect, keyword, number, take_word, end, listed, repeated, keeping}
use Rattle.som_parse.specs.Tokens.{is_sign, is_key, same_key, word}
use Rattle.som_parse.specs.declared.token.Key.{Key}
use Rattle.som_parse.specs.declared.token.Key.TheVariants as key
use Rattle.som_parse.specs.declared.token.Sign.TheVariants as sign
use Rattle.som_parse.specs.declared.token.Token.{Token}
use Rattle.som_parse.specs.declared.token.Token.TheVariants as token
use Rattle.som_ast.specs.declared.words.TypeName.{TypeName}
use Rattle.som_ast.specs.declared.words.TypeName.TheVariants as types
use Rattle.som_ast.specs.declared.words.Word.{Word}
use Rattle.som_idl.specs.Grammar.{is_name}
use Rattle.som_idl.specs.declared.item.Setting.{Setting}
use Rattle.som_idl.specs.declared.item.Setting.TheVariants as settings
use Rattle.som_ast.specs.declared.interface.Export.{Export}
use Rattle.som_ast.specs.declared.interface.Export.TheVariants as exports
use Rattle.som_ast.specs.declared.interface.IdlFile.{IdlFile}
use Rattle.som_ast.specs.declared.interface.IdlInterface.{IdlInterface}
use Rattle.som_ast.specs.declared.interface.Item.{Item}
use Rattle.som_ast.specs.declared.interface.Item.TheVariants as items
use Rattle.som_ast.specs.declared.interface.Modifier.{Modifier}
use Rattle.som_ast.specs.declared.interface.Modifier.TheVariants as modifiers
use Rattle.som_ast.specs.declared.interface.Param.{Param}

-- what a word sets that stands directly before "="
abbrev pub setting_of : Key → Option Setting
setting_of key.Metaclass = Some settings.Metaclass
setting_of key.MajorVersion = Some settings.Major
setting_of key.MinorVersion = Some settings.Minor
setting_of key.FileStem = Some settings.Ignored
setting_of key.DllName = Some settings.Ignored
setting_of key.FunctionPrefix = Some settings.Ignored
setting_of _ = None

abbrev pub is_literal : Option Token → Bool
is_literal (Some (token.Literal p)) = true
is_literal _ = false

abbrev pub semicolon_none : Parser (Option Item)
semicolon_none = expect sign.Semicolon >> pure None

abbrev pub ends_exports : Option Token → Bool
ends_exports o = if is_sign sign.CloseBrace o then true else is_key key.Implementation o

abbrev pub ends_file : Option Token → Bool
ends_file None = true
ends_file (Some t) = false

abbrev pub placed : Key → ℕ → Option (Key × ℕ)
placed k p = if is_name k then Some (k, p) else None

module _ (text_at : ℕ → List ℕ) where
  abbrev pub named : Key → ℕ → Option Word
  named k p = if is_name k then Some (word text_at p) else None

  unfoldable pub name : Parser Word
  name = take_word named

  unfoldable pub kind : Parser TypeName
  kind = after (is_key key.Long) (pure types.Long) (after (is_key key.Boolean) (pure types.Boolean) (after (is_key key.Str) (pure types.Str) (name >>= λ n. pure (types.Class n))))

  unfoldable pub outcome : Parser (Option TypeName)
  outcome = after (is_key key.Void) (pure None) (kind >>= λ t. pure (Some t))

  unfoldable pub param : Parser Param
  param = keyword key.In >> (kind >>= λ t. name >>= λ n. pure (record { kind = t; name = n }))

  abbrev pub params_left : Parser (List Param)
  params_left = listed param >>= λ ps. expect sign.Close >> pure ps

  unfoldable pub params : Parser (List Param)
  params = expect sign.Open >> after (is_sign sign.Close) (pure []) params_left

  unfoldable pub attribute : Bool → Parser Export
  attribute readonly = keyword key.Attribute >> (kind >>= λ t. listed name >>= λ ns. expect sign.Semicolon >> pure (exports.Attribute readonly t ns))

  unfoldable pub operation : Parser Export
  operation = outcome >>= λ t. name >>= λ n. params >>= λ ps. expect sign.Semicolon >> pure (exports.Operation t n ps)

  unfoldable pub export : Parser Export
  export = after (is_key key.Readonly) (attribute true) (when (is_key key.Attribute) (attribute false) operation)

  unfoldable pub exports_at : Parser (List Export)
  exports_at = repeated ends_exports (keeping export)

  unfoldable pub order : Parser (List Word)
  order = when (is_sign sign.Semicolon) (pure []) (listed name)

  unfoldable pub release_order : Parser (Option Item)
  release_order = order >>= λ ns. expect sign.Semicolon >> pure (Some (items.ReleaseOrder ns))

  unfoldable pub selecting : Parser Modifier
  selecting = keyword key.Select >> (expect sign.Assign >> (name >>= λ n. pure (modifiers.Select n)))

  unfoldable pub modifier : Parser Modifier
  modifier = after (is_key key.Override) (pure modifiers.Override) (after (is_key key.NameLookup) (pure modifiers.NameLookup) (after (is_key key.Offset) (pure modifiers.Offset) selecting))

  unfoldable pub method : ℕ → Parser (Option Item)
  method p = listed modifier >>= λ ms. expect sign.Semicolon >> pure (Some (items.Method (word text_at p) ms))

  unfoldable pub variables : TypeName → Parser (Option Item)
  variables t = listed name >>= λ ns. expect sign.Semicolon >> pure (Some (items.Variables t ns))

  unfoldable pub ignored : Parser (Unit {0})
  ignored = after is_literal (pure tt) (name >>= λ n. pure tt)

  abbrev pub assigned : Setting → Parser (Option Item)
  assigned settings.Metaclass = name >>= λ n. expect sign.Semicolon >> pure (Some (items.Metaclass n))
  assigned settings.Major = number >>= λ n. expect sign.Semicolon >> pure (Some (items.Major n))
  assigned settings.Minor = number >>= λ n. expect sign.Semicolon >> pure (Some (items.Minor n))
  assigned settings.Ignored = ignored >> semicolon_none

  -- after a word that may be set, or not
  abbrev pub set : Option Setting → ℕ → Parser (Option Item)
  set (Some s) p = after (is_sign sign.Assign) (assigned s) (variables (types.Class (word text_at p)))
  set None p = variables (types.Class (word text_at p))

  -- after a name and ":"
  abbrev pub described : Bool → ℕ → Parser (Option Item)
  described true p = release_order
  described false p = method p

  unfoldable pub named_item : Key → ℕ → Parser (Option Item)
  named_item k p = after (is_sign sign.Colon) (described (same_key k key.ReleaseOrder) p) (set (setting_of k) p)

  unfoldable pub item : Parser (Option Item)
  item = after (is_key key.Long) (variables types.Long) (after (is_key key.Boolean) (variables types.Boolean) (after (is_key key.Str) (variables types.Str)
      (take_word placed >>= λ w. named_item w.0 w.1)))

  unfoldable pub items_at : Parser (List Item)
  items_at = repeated (is_sign sign.CloseBrace) item

  abbrev pub whole_section : Parser (List Item × List Export)
  whole_section = expect sign.OpenBrace >> (items_at >>= λ is. expect sign.CloseBrace >> (expect sign.Semicolon >> (exports_at >>= λ es. pure (is, es))))

  unfoldable pub section : Parser (List Item × List Export)
  section = after (is_key key.Implementation) whole_section (pure ([], []))

  unfoldable pub parents : Parser (List Word)
  parents = after (is_sign sign.Colon) (listed name) (pure [])

  -- after "interface" and the name
  unfoldable pub interface_of : Word → Parser (Option IdlInterface)
  interface_of n = parents >>= λ ps. expect sign.OpenBrace >> (exports_at >>= λ es. section >>= λ s. expect sign.CloseBrace >> (expect sign.Semicolon
      >> pure (Some (record { name = n; parents = ps; before = es; items = s.0; after = s.1 }))))

  unfoldable pub entry : Parser (Option IdlInterface)
  entry = keyword key.Interface >> (name >>= λ n. after (is_sign sign.Semicolon) (pure None) (interface_of n))

  unfoldable pub file : Parser IdlFile
  file = repeated ends_file entry >>= λ is. end >> pure (record { interfaces = is })
