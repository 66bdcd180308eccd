-- The readers of items read their languages.
use Rattle.std.proofs.Common.{◌≡◌, ◌≢◌, ℕ, List, [], ◌∷◌, ◌++◌, Bool, true, false, cond, Option, Some, None, refl, subst, sym, length-append, arith}
use Rattle.std.proofs.lemmas.List.{append-nil}
use Rattle.som_parse.specs.Languages.{Listed, Repeated}
use Rattle.som_parse.specs.Tokens.{is_sign, same_key, word}
use Rattle.som_parse.specs.declared.token.Key.{Key}
use Rattle.som_parse.specs.declared.token.Key.TheVariants as key
use Rattle.som_parse.specs.declared.token.Sign.TheVariants as sign
use Rattle.som_parse.specs.declared.token.Token.{Token}
use Rattle.som_parse.specs.declared.token.Token.TheVariants as token
use Rattle.som_ast.specs.declared.words.TypeName.{TypeName}
use Rattle.som_ast.specs.declared.words.TypeName.TheVariants as types
use Rattle.som_ast.specs.declared.interface.Item.{Item}
use Rattle.som_ast.specs.declared.interface.Item.TheVariants as items
use Rattle.som_idl.specs.declared.item.Setting.TheVariants as settings
use Rattle.som_idl.specs.Grammar as g
use Rattle.som_idl.specs.Reading as r
use Rattle.som_parse.proofs.Laws.{Lawful, wider, bind_law, pure_law, when_law, after_law}
use Rattle.som_parse.proofs.Steps.{IsTaken, it_is_taken, take_word_law, IsNumber, the_number, number_law, after_sign, after_key, expect_then, keyword_then, same_key_is, same_key_differs}
use Rattle.som_parse.proofs.Repetition.{listed_law, repeated_law}
use Rattle.som_parse.proofs.Turns.{IsLong}
use Rattle.som_idl.proofs.NameLaws.{name_law, names_law}

module _ (text_at : ℕ → List ℕ) where
  pub modifier_law : Lawful (g.IsModifier text_at) (r.modifier text_at)
  unfolding r.modifier r.selecting
  modifier_law = after_key (g.IsModifier text_at) _ _ key.Override (λ x. pure_law _ _ g.modifier_override)
      (after_key (g.IsModifier text_at) _ _ key.NameLookup (λ x. pure_law _ _ g.modifier_namelookup)
      (after_key (g.IsModifier text_at) _ _ key.Offset (λ x. pure_law _ _ g.modifier_offset)
      (keyword_then (g.IsModifier text_at) _ key.Select (λ x. expect_then _ _ sign.Assign (bind_law (g.IsName text_at) _ _ _ (name_law text_at) (λ u n h. pure_law _ _ (rw append-nil (g.modifier_select h))))))))

  pub order_law : Lawful (g.IsOrder text_at) (r.order text_at)
  unfolding r.order
  order_law = when_law (g.IsOrder text_at) (is_sign sign.Semicolon) _ _ (pure_law _ _ g.order_none) (wider (Listed (g.IsName text_at)) (g.IsOrder text_at) _ (λ u ns h. g.order_some h) (names_law text_at))

  release_order_law : (p : ℕ) → Lawful (λ u. g.IsItem text_at (token.Word key.ReleaseOrder p ∷ token.Mark sign.Colon ∷ u)) (r.release_order text_at)
  unfolding r.release_order
  release_order_law p = bind_law (g.IsOrder text_at) _ _ _ order_law (λ u ns h. expect_then _ _ sign.Semicolon (pure_law _ _ (g.item_order h)))

  method_law : (k : Key) (p : ℕ) → g.is_name k ≡ true → k ≢ key.ReleaseOrder → Lawful (λ u. g.IsItem text_at (token.Word k p ∷ token.Mark sign.Colon ∷ u)) (r.method text_at p)
  unfolding r.method
  method_law k p n differs = bind_law (Listed (g.IsModifier text_at)) _ _ _ (listed_law _ _ modifier_law) (λ u ms h. expect_then _ _ sign.Semicolon (pure_law _ _ (g.item_method k p n differs h)))

  variables_law : (t : TypeName) (v : List Token) → g.IsType text_at v t → Lawful (λ u. g.IsItem text_at (v ++ u)) (r.variables text_at t)
  unfolding r.variables
  variables_law t v h = bind_law (Listed (g.IsName text_at)) _ _ _ (names_law text_at) (λ u ns i. expect_then _ _ sign.Semicolon (pure_law _ _ (g.item_variables h i)))

  described_law : (k : Key) (p : ℕ) (b : Bool) → same_key k key.ReleaseOrder ≡ b → g.is_name k ≡ true → Lawful (λ u. g.IsItem text_at (token.Word k p ∷ token.Mark sign.Colon ∷ u)) (r.described text_at b p)
  described_law k p true e n = subst (λ (y : Key). Lawful (λ u. g.IsItem text_at (token.Word y p ∷ token.Mark sign.Colon ∷ u)) (r.release_order text_at)) (sym (same_key_is k key.ReleaseOrder e)) (release_order_law p)
  described_law k p false e n = method_law k p n (same_key_differs k key.ReleaseOrder e)

  -- a text literal or a name
  data Ignored : List Token → Unit {0} → Type 0 where
    it_is_ignored : {u : List Token} → g.IsIgnored text_at u → Ignored u tt

  literal_first : (t : Token) → r.is_literal (Some t) ≡ true → Ignored (t ∷ []) tt
  literal_first (token.Literal p) e = it_is_ignored g.ignored_text
  literal_first (token.Word k p) e = cc
  literal_first (token.Number n) e = cc
  literal_first (token.Mark s) e = cc
  literal_first token.Directive e = cc

  ignored_law : Lawful Ignored (r.ignored text_at)
  unfolding r.ignored
  ignored_law = after_law Ignored r.is_literal _ _ refl (λ t e. pure_law _ _ (literal_first t e))
      (bind_law (g.IsName text_at) Ignored _ _ (name_law text_at) (λ u n h. pure_law _ _ (rw append-nil (it_is_ignored (g.ignored_name h)))))

  past_ignored : (k : Key) (p : ℕ) → g.IsFileWord text_at k → {u : List Token} {a : Unit {0}} → Ignored u a
      → Lawful (λ v. g.IsItem text_at (token.Word k p ∷ token.Mark sign.Assign ∷ (u ++ v))) (λ ts. r.semicolon_none ts)
  past_ignored k p w (it_is_ignored h) = expect_then _ _ sign.Semicolon (pure_law _ _ (g.item_ignored w h))

  file_word_law : (k : Key) (p : ℕ) → g.IsFileWord text_at k → Lawful (λ u. g.IsItem text_at (token.Word k p ∷ token.Mark sign.Assign ∷ u)) (r.assigned text_at settings.Ignored)
  file_word_law k p w = bind_law Ignored _ _ _ ignored_law (λ u a h. past_ignored k p w h)

  unset_law : (k : Key) (p : ℕ) → g.is_name k ≡ true → Lawful (λ u. g.IsItem text_at (token.Word k p ∷ u)) (r.variables text_at (types.Class (word text_at p)))
  unset_law k p n = variables_law (types.Class (word text_at p)) (token.Word k p ∷ []) (g.type_class (g.a_name k p n))

  metaclass_law : (p : ℕ) → Lawful (λ u. g.IsItem text_at (token.Word key.Metaclass p ∷ token.Mark sign.Assign ∷ u)) (r.assigned text_at settings.Metaclass)
  metaclass_law p = bind_law (g.IsName text_at) _ _ _ (name_law text_at) (λ u n h. expect_then _ _ sign.Semicolon (pure_law _ _ (g.item_metaclass h)))

  major_of : (p : ℕ) {u : List Token} {n : ℕ} → IsNumber u n → g.IsItem text_at (token.Word key.MajorVersion p ∷ token.Mark sign.Assign ∷ (u ++ token.Mark sign.Semicolon ∷ [])) (Some (items.Major n))
  major_of p the_number = g.item_major

  minor_of : (p : ℕ) {u : List Token} {n : ℕ} → IsNumber u n → g.IsItem text_at (token.Word key.MinorVersion p ∷ token.Mark sign.Assign ∷ (u ++ token.Mark sign.Semicolon ∷ [])) (Some (items.Minor n))
  minor_of p the_number = g.item_minor

  major_law : (p : ℕ) → Lawful (λ u. g.IsItem text_at (token.Word key.MajorVersion p ∷ token.Mark sign.Assign ∷ u)) (r.assigned text_at settings.Major)
  major_law p = bind_law IsNumber _ _ _ number_law (λ u n h. expect_then _ _ sign.Semicolon (pure_law _ _ (major_of p h)))

  minor_law : (p : ℕ) → Lawful (λ u. g.IsItem text_at (token.Word key.MinorVersion p ∷ token.Mark sign.Assign ∷ u)) (r.assigned text_at settings.Minor)
  minor_law p = bind_law IsNumber _ _ _ number_law (λ u n h. expect_then _ _ sign.Semicolon (pure_law _ _ (minor_of p h)))

  set_law : (k : Key) (p : ℕ) → g.is_name k ≡ true → Lawful (λ u. g.IsItem text_at (token.Word k p ∷ u)) (r.set text_at (r.setting_of k) p)
  set_law key.Metaclass p n = after_sign _ _ _ sign.Assign (metaclass_law p) (unset_law key.Metaclass p n)
  set_law key.MajorVersion p n = after_sign _ _ _ sign.Assign (major_law p) (unset_law key.MajorVersion p n)
  set_law key.MinorVersion p n = after_sign _ _ _ sign.Assign (minor_law p) (unset_law key.MinorVersion p n)
  set_law key.FileStem p n = after_sign _ _ _ sign.Assign (file_word_law key.FileStem p g.word_filestem) (unset_law key.FileStem p n)
  set_law key.DllName p n = after_sign _ _ _ sign.Assign (file_word_law key.DllName p g.word_dllname) (unset_law key.DllName p n)
  set_law key.FunctionPrefix p n = after_sign _ _ _ sign.Assign (file_word_law key.FunctionPrefix p g.word_functionprefix) (unset_law key.FunctionPrefix p n)
  set_law k p n = unset_law k p n

  named_item_law : (k : Key) (p : ℕ) → g.is_name k ≡ true → Lawful (λ u. g.IsItem text_at (token.Word k p ∷ u)) (r.named_item text_at k p)
  unfolding r.named_item
  named_item_law k p n = after_sign (λ u. g.IsItem text_at (token.Word k p ∷ u)) _ _ sign.Colon (described_law k p (same_key k key.ReleaseOrder) refl n) (set_law k p n)

  placed_by : (b : Bool) (k : Key) (p : ℕ) (w : Key × ℕ) → g.is_name k ≡ b → ◌≡◌ {A = Option (Key × ℕ)} (cond b (Some (k, p)) None) (Some w) → Lawful (λ u. g.IsItem text_at (token.Word k p ∷ u)) (r.named_item text_at w.0 w.1)
  placed_by true k p w n same = let s : ◌≡◌ {A = Key × ℕ} (k, p) w = cc in subst (λ (y : Key × ℕ). Lawful (λ u. g.IsItem text_at (token.Word k p ∷ u)) (r.named_item text_at y.0 y.1)) s (named_item_law k p n)
  placed_by false k p w n same = cc

  after_placed : {t : List Token} {w : Key × ℕ} → IsTaken r.placed t w → Lawful (λ u. g.IsItem text_at (t ++ u)) (r.named_item text_at w.0 w.1)
  after_placed (it_is_taken k p {a = w} e) = placed_by (g.is_name k) k p w refl e

  pub item_law : Lawful (g.IsItem text_at) (r.item text_at)
  unfolding r.item
  item_law = after_key (g.IsItem text_at) _ _ key.Long (λ x. variables_law types.Long (token.Word key.Long x ∷ []) g.type_long)
      (after_key (g.IsItem text_at) _ _ key.Boolean (λ x. variables_law types.Boolean (token.Word key.Boolean x ∷ []) g.type_boolean)
      (after_key (g.IsItem text_at) _ _ key.Str (λ x. variables_law types.Str (token.Word key.Str x ∷ []) g.type_string)
      (bind_law (IsTaken r.placed) (g.IsItem text_at) _ _ (take_word_law r.placed (record { tokens = token.Word key.Plain 0 ∷ []; value = (key.Plain, 0); reads = it_is_taken key.Plain 0 refl })) (λ t w h. after_placed h))))

  pub long_item : {u : List Token} {o : Option Item} → g.IsItem text_at u o → IsLong u
  long_item (g.item_order h) = omega arith
  long_item (g.item_metaclass h) = omega arith
  long_item g.item_major = omega arith
  long_item g.item_minor = omega arith
  long_item (g.item_ignored w h) = omega arith
  long_item (g.item_method k p n d h) = omega arith
  long_item (g.item_variables h i) = simp length-append (omega arith)

  pub items_law : Lawful (Repeated (g.IsItem text_at)) (r.items_at text_at)
  unfolding r.items_at
  items_law = repeated_law (is_sign sign.CloseBrace) (g.IsItem text_at) (r.item text_at) item_law (λ u o h. long_item h)
