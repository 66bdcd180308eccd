-- What the grammar derives as items is read, whatever follows.
use Rattle.std.proofs.Common.{◌≡◌, ℕ, List, [], ◌∷◌, ◌++◌, Bool, true, false, Option, Some, None, Ok, refl, ◌∙◌, append_assoc}
use Rattle.som_parse.specs.Languages.{Listed, Repeated}
use Rattle.som_parse.specs.Readers as readers
use Rattle.som_parse.specs.Readers.{listed}
use Rattle.som_parse.specs.Tokens.{head, is_sign, same_sign, same_key, word}
use Rattle.som_parse.specs.declared.token.Key.{Key}
use Rattle.som_parse.specs.declared.token.Key.TheVariants as key
use Rattle.som_parse.specs.declared.token.Sign.TheVariants as sign
use Rattle.som_parse.specs.declared.token.Token.{Token}
use Rattle.som_parse.specs.declared.token.Token.TheVariants as token
use Rattle.som_ast.specs.declared.words.TypeName.{TypeName}
use Rattle.som_ast.specs.declared.words.TypeName.TheVariants as types
use Rattle.som_ast.specs.declared.words.Word.{Word}
use Rattle.som_ast.specs.declared.interface.Item.{Item}
use Rattle.som_ast.specs.declared.interface.Item.TheVariants as items
use Rattle.som_ast.specs.declared.interface.Modifier.{Modifier}
use Rattle.som_idl.specs.declared.item.Setting.{Setting}
use Rattle.som_idl.specs.declared.item.Setting.TheVariants as settings
use Rattle.som_idl.specs.Grammar as g
use Rattle.som_idl.specs.Reading as r
use Rattle.som_parse.proofs.Steps.{same_key_self, same_sign_self, apart_key, differs_key}
use Rattle.som_parse.proofs.Found.{expect_found, number_found, take_word_found, listed_found, repeated_found, starts_more, not_sign}
use Rattle.som_idl.proofs.ItemLaws.{long_item}
use Rattle.som_idl.proofs.NameFound.{names_start, name_found, listed_names}

module _ (text_at : ℕ → List ℕ) where
  modifier_found : {u : List Token} {m : Modifier} → g.IsModifier text_at u m → (z : List Token) → r.modifier text_at (u ++ z) ≡ Ok (m, z)
  unfolding r.modifier r.selecting same_key same_sign readers.keyword readers.expect
  modifier_found g.modifier_override z = refl
  modifier_found g.modifier_namelookup z = refl
  modifier_found g.modifier_offset z = refl
  modifier_found (g.modifier_select {u = u} h) z = rw (name_found text_at h z) refl

  listed_modifiers : {u : List Token} {ms : List Modifier} → Listed (g.IsModifier text_at) u ms → (z : List Token) → listed (r.modifier text_at) (u ++ token.Mark sign.Semicolon ∷ z) ≡ Ok (ms, token.Mark sign.Semicolon ∷ z)
  unfolding same_sign
  listed_modifiers h z = listed_found (g.IsModifier text_at) (r.modifier text_at) (λ y. Unit {0}) (λ y. tt) (λ v a y i c. modifier_found i y) h (token.Mark sign.Semicolon ∷ z) tt refl

  order_found : {u : List Token} {ns : List Word} → g.IsOrder text_at u ns → (z : List Token) → r.order text_at (u ++ token.Mark sign.Semicolon ∷ z) ≡ Ok (ns, token.Mark sign.Semicolon ∷ z)
  unfolding r.order
  order_found g.order_none z = rw (same_sign_self sign.Semicolon) refl
  order_found (g.order_some {u = u} h) z = rw (not_sign g.is_name sign.Semicolon u (token.Mark sign.Semicolon ∷ z) (names_start text_at h)) (listed_names text_at h z)

  release_order_found : {u : List Token} {ns : List Word} → g.IsOrder text_at u ns → (z : List Token) → r.release_order text_at ((u ++ token.Mark sign.Semicolon ∷ []) ++ z) ≡ Ok (Some (items.ReleaseOrder ns), z)
  unfolding r.release_order
  release_order_found {u = u} h z = rw (append_assoc u (token.Mark sign.Semicolon ∷ []) z, order_found h z, expect_found sign.Semicolon z) refl

  method_found : (p : ℕ) {u : List Token} {ms : List Modifier} → Listed (g.IsModifier text_at) u ms → (z : List Token) → r.method text_at p ((u ++ token.Mark sign.Semicolon ∷ []) ++ z) ≡ Ok (Some (items.Method (word text_at p) ms), z)
  unfolding r.method
  method_found p {u = u} h z = rw (append_assoc u (token.Mark sign.Semicolon ∷ []) z, listed_modifiers h z, expect_found sign.Semicolon z) refl

  variables_found : (t : TypeName) {v : List Token} {ns : List Word} → Listed (g.IsName text_at) v ns → (z : List Token) → r.variables text_at t ((v ++ token.Mark sign.Semicolon ∷ []) ++ z) ≡ Ok (Some (items.Variables t ns), z)
  unfolding r.variables
  variables_found t {v = v} h z = rw (append_assoc v (token.Mark sign.Semicolon ∷ []) z, listed_names text_at h z, expect_found sign.Semicolon z) refl

  ignored_found : {u : List Token} → g.IsIgnored text_at u → (z : List Token) → r.ignored text_at (u ++ z) ≡ Ok (tt, z)
  unfolding r.ignored
  ignored_found (g.ignored_name (g.a_name k p e)) z = rw (name_found text_at (g.a_name k p e) z) refl
  ignored_found g.ignored_text z = refl

  left_out_found : {u : List Token} → g.IsIgnored text_at u → (z : List Token) → r.assigned text_at settings.Ignored ((u ++ token.Mark sign.Semicolon ∷ []) ++ z) ≡ Ok (None, z)
  left_out_found {u = u} h z = rw (append_assoc u (token.Mark sign.Semicolon ∷ []) z, ignored_found h (token.Mark sign.Semicolon ∷ z), expect_found sign.Semicolon z) refl

  metaclass_found : {u : List Token} {n : Word} → g.IsName text_at u n → (z : List Token) → r.assigned text_at settings.Metaclass ((u ++ token.Mark sign.Semicolon ∷ []) ++ z) ≡ Ok (Some (items.Metaclass n), z)
  metaclass_found {u = u} h z = rw (append_assoc u (token.Mark sign.Semicolon ∷ []) z, name_found text_at h (token.Mark sign.Semicolon ∷ z), expect_found sign.Semicolon z) refl

  major_found : (n : ℕ) (z : List Token) → r.assigned text_at settings.Major (token.Number n ∷ token.Mark sign.Semicolon ∷ z) ≡ Ok (Some (items.Major n), z)
  major_found n z = rw (number_found n (token.Mark sign.Semicolon ∷ z), expect_found sign.Semicolon z) refl

  minor_found : (n : ℕ) (z : List Token) → r.assigned text_at settings.Minor (token.Number n ∷ token.Mark sign.Semicolon ∷ z) ≡ Ok (Some (items.Minor n), z)
  minor_found n z = rw (number_found n (token.Mark sign.Semicolon ∷ z), expect_found sign.Semicolon z) refl

  -- ---- an item that begins with a name
  set_passed : (o : Option Setting) (p : ℕ) (ts : List Token) → is_sign sign.Assign (head ts) ≡ false → r.set text_at o p ts ≡ r.variables text_at (types.Class (word text_at p)) ts
  set_passed (Some s) p ts e = rw e refl
  set_passed None p ts e = refl

  unnamed : (k : Key) (p : ℕ) (z : List Token) → g.is_name k ≡ true → r.item text_at (token.Word k p ∷ z) ≡ r.named_item text_at k p z
  unfolding r.item
  unnamed k p z e =
      rw (apart_key g.is_name k key.Long e refl, apart_key g.is_name k key.Boolean e refl, apart_key g.is_name k key.Str e refl, take_word_found r.placed k p (k, p) z (rw e refl)) refl

  colon_found : (k : Key) (p : ℕ) (z : List Token) → r.named_item text_at k p (token.Mark sign.Colon ∷ z) ≡ r.described text_at (same_key k key.ReleaseOrder) p z
  unfolding r.named_item
  colon_found k p z = rw (same_sign_self sign.Colon) refl

  assign_found : (k : Key) (p : ℕ) (s : Setting) (z : List Token) → r.setting_of k ≡ Some s → r.named_item text_at k p (token.Mark sign.Assign ∷ z) ≡ r.assigned text_at s z
  unfolding r.named_item same_sign
  assign_found k p s z e = rw e refl

  names_follow : (k : Key) (p : ℕ) {v : List Token} {ns : List Word} → Listed (g.IsName text_at) v ns → (z : List Token)
      → r.named_item text_at k p ((v ++ token.Mark sign.Semicolon ∷ []) ++ z) ≡ Ok (Some (items.Variables (types.Class (word text_at p)) ns), z)
  unfolding r.named_item
  names_follow k p {v = v} h z =
      let s = starts_more (token.Mark sign.Semicolon ∷ []) (names_start text_at h) in
      rw (not_sign g.is_name sign.Colon (v ++ token.Mark sign.Semicolon ∷ []) z s)
      (set_passed (r.setting_of k) p ((v ++ token.Mark sign.Semicolon ∷ []) ++ z) (not_sign g.is_name sign.Assign (v ++ token.Mark sign.Semicolon ∷ []) z s) ∙ variables_found (types.Class (word text_at p)) h z)

  file_word_found : {k : Key} → g.IsFileWord text_at k → (p : ℕ) (z : List Token) → r.item text_at (token.Word k p ∷ token.Mark sign.Assign ∷ z) ≡ r.assigned text_at settings.Ignored z
  file_word_found g.word_filestem p z = unnamed key.FileStem p (token.Mark sign.Assign ∷ z) refl ∙ assign_found key.FileStem p settings.Ignored z refl
  file_word_found g.word_dllname p z = unnamed key.DllName p (token.Mark sign.Assign ∷ z) refl ∙ assign_found key.DllName p settings.Ignored z refl
  file_word_found g.word_functionprefix p z = unnamed key.FunctionPrefix p (token.Mark sign.Assign ∷ z) refl ∙ assign_found key.FunctionPrefix p settings.Ignored z refl

  typed_found : {u v : List Token} {t : TypeName} {ns : List Word} → g.IsType text_at u t → Listed (g.IsName text_at) v ns → (z : List Token)
      → r.item text_at (u ++ ((v ++ token.Mark sign.Semicolon ∷ []) ++ z)) ≡ Ok (Some (items.Variables t ns), z)
  unfolding r.item same_key
  typed_found g.type_long h z = variables_found types.Long h z
  typed_found g.type_boolean h z = variables_found types.Boolean h z
  typed_found g.type_string h z = variables_found types.Str h z
  typed_found {v = v} (g.type_class (g.a_name k p e)) h z = unnamed k p ((v ++ token.Mark sign.Semicolon ∷ []) ++ z) e ∙ names_follow k p h z

  pub item_found : {u : List Token} {o : Option Item} → g.IsItem text_at u o → (z : List Token) → r.item text_at (u ++ z) ≡ Ok (o, z)
  item_found (g.item_order {p = p} {u = u} h) z =
      unnamed key.ReleaseOrder p _ refl ∙ colon_found key.ReleaseOrder p _ ∙ rw (same_key_self key.ReleaseOrder) (release_order_found h z)
  item_found (g.item_metaclass {p = p} h) z = unnamed key.Metaclass p _ refl ∙ assign_found key.Metaclass p settings.Metaclass _ refl ∙ metaclass_found h z
  item_found (g.item_major {p = p} {n = n}) z = unnamed key.MajorVersion p _ refl ∙ assign_found key.MajorVersion p settings.Major _ refl ∙ major_found n z
  item_found (g.item_minor {p = p} {n = n}) z = unnamed key.MinorVersion p _ refl ∙ assign_found key.MinorVersion p settings.Minor _ refl ∙ minor_found n z
  item_found (g.item_ignored {p = p} w h) z = file_word_found w p _ ∙ left_out_found h z
  item_found (g.item_method k p e d h) z = unnamed k p _ e ∙ colon_found k p _ ∙ rw (differs_key k key.ReleaseOrder d) (method_found p h z)
  item_found (g.item_variables {u = u} {v = v} h i) z = rw (append_assoc u (v ++ token.Mark sign.Semicolon ∷ []) z) (typed_found h i z)

  -- ---- items up to the brace
  item_starts : {u : List Token} {o : Option Item} → g.IsItem text_at u o → (z : List Token) → is_sign sign.CloseBrace (head (u ++ z)) ≡ false
  item_starts (g.item_order h) z = refl
  item_starts (g.item_metaclass h) z = refl
  item_starts g.item_major z = refl
  item_starts g.item_minor z = refl
  item_starts (g.item_ignored w h) z = refl
  item_starts (g.item_method k p e d h) z = refl
  item_starts (g.item_variables g.type_long i) z = refl
  item_starts (g.item_variables g.type_boolean i) z = refl
  item_starts (g.item_variables g.type_string i) z = refl
  item_starts (g.item_variables (g.type_class (g.a_name k p e)) i) z = refl

  pub items_found : {u : List Token} {is : List Item} → Repeated (g.IsItem text_at) u is → (z : List Token) → r.items_at text_at (u ++ token.Mark sign.CloseBrace ∷ z) ≡ Ok (is, token.Mark sign.CloseBrace ∷ z)
  unfolding r.items_at
  items_found h z = repeated_found (is_sign sign.CloseBrace) (g.IsItem text_at) (r.item text_at) (λ v o i. long_item text_at i) (λ v o y i. item_found i y) (λ v o y i. item_starts i y) h (token.Mark sign.CloseBrace ∷ z) (same_sign_self sign.CloseBrace)
