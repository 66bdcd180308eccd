-- The tokens of a text are within their limits, and so is what the grammar derives of them.
use Rattle.std.proofs.Common.{◌≡◌, ℕ, suc, ◌+◌, ◌≤◌, Bool, true, false, cond, List, [], ◌∷◌, ◌++◌, length, Option, Some, IfSome, refl, sym, ap, subst, arith, zero-add}
use Rattle.std.specs.Prelude.{⊤, All}
use Rattle.std.specs.List.{slice_get}
use Rattle.std.specs.Option.{option_map_or}
use Rattle.std.proofs.lemmas.List.Elements.{All-nil, All-cons, All-head, All-tail, All-append}
use Rattle.som_lex.specs.declared.token.LexToken.{LexToken}
use Rattle.som_lex.specs.declared.token.TokenKind.{TokenKind}
use Rattle.som_lex.specs.declared.token.TokenKind.TheVariants as kinds
use Rattle.som_lex.specs.declared.token.Tokens.{Tokens}
use Rattle.som_lex.specs.Spans.{IsSpelled, bytes_of}
use Rattle.som_lex.specs.Spelling.{FitsLimit}
use Rattle.som_parse.specs.Languages.{Lang, Listed, Repeated, Kept, the_first, the_next, nothing_yet, one_kept, one_left_out, it_is_kept}
use Rattle.som_parse.specs.Seen.{seen, seen_as, seen_from, text_at, token_of, is_left_out}
use Rattle.som_parse.specs.declared.token.Token.{Token}
use Rattle.som_parse.specs.declared.token.Token.TheVariants as token
use Rattle.som_ast.specs.declared.words.TypeName.{TypeName}
use Rattle.som_ast.specs.declared.words.Word.{Word}
use Rattle.som_idl.specs.Grammar as g
use Rattle.som_idl.specs.Within.{WordWithin, VersionWithin, TypeWithin, ResultWithin, ParamWithin, ExportWithin, ModifierWithin, ItemWithin, InterfaceWithin, FileWithin}
use Rattle.som_model.specs.declared.limits.TheConstants.{MAX_NAME}
use Rattle.som_ast.specs.declared.interface.Export.{Export}
use Rattle.som_ast.specs.declared.interface.IdlFile.{IdlFile}
use Rattle.som_ast.specs.declared.interface.IdlInterface.{IdlInterface}
use Rattle.som_ast.specs.declared.interface.Item.{Item}
use Rattle.som_ast.specs.declared.interface.Modifier.{Modifier}
use Rattle.som_ast.specs.declared.interface.Param.{Param}

-- a word is no longer than a name may be, and a number is one that a version may have
abbrev pub TokenWithin : (ℕ → List ℕ) → Token → Type 0
TokenWithin at (token.Word k p) = length (at p) ≤ MAX_NAME
TokenWithin at (token.Number n) = VersionWithin n
TokenWithin at (token.Literal p) = ⊤
TokenWithin at (token.Mark s) = ⊤
TokenWithin at token.Directive = ⊤

-- ---- the tokens of a text
seen_within : (at : ℕ → List ℕ) (kind : TokenKind) (bs : List ℕ) (p : ℕ) → at p ≡ bs → FitsLimit kind bs → TokenWithin at (seen_as kind bs p)
seen_within at kinds.Word bs p e fits = subst (λ (ys : List ℕ). length ys ≤ MAX_NAME) (sym e) fits
seen_within at kinds.Number bs p e fits = fits
seen_within at kinds.Literal bs p e fits = tt
seen_within at kinds.Sign bs p e fits = tt
seen_within at kinds.Directive bs p e fits = tt

module _ (t : Tokens) where
  -- these are the tokens of the text from a place on
  abbrev Stand : ℕ → List LexToken → Type 0
  Stand p ts = (i : ℕ) (x : LexToken) → slice_get ts i ≡ Some x → slice_get t.list (i + p) ≡ Some x

  stand_later : (p : ℕ) (x : LexToken) (ts : List LexToken) → Stand p (x ∷ ts) → Stand (p + 1) ts
  stand_later p x ts h i y e =
      let k : suc i + p ≡ i + (p + 1) = omega arith in
      subst (λ j. slice_get t.list j ≡ Some y) k (h (suc i) y e)

  stands_first : (p : ℕ) (x : LexToken) (ts : List LexToken) → Stand p (x ∷ ts) → text_at t p ≡ bytes_of t.source x
  stands_first p x ts h = ap (λ (o : Option LexToken). option_map_or (bytes_of t.source) o []) (subst (λ j. slice_get t.list j ≡ Some x) (zero-add p) (h 0 x refl))

  kept_within : (left_out : Bool) (x : Token) (xs : List Token) → TokenWithin (text_at t) x → All (TokenWithin (text_at t)) xs → All (TokenWithin (text_at t)) (cond left_out xs (x ∷ xs))
  kept_within true x xs h hs = hs
  kept_within false x xs h hs = All-cons (TokenWithin (text_at t)) x xs h hs

  from_within : (p : ℕ) (ts : List LexToken) → Stand p ts → All (IsSpelled t.source) ts → All (TokenWithin (text_at t)) (seen_from t.source p ts)
  unfolding token_of
  from_within p [] h spelled = All-nil (TokenWithin (text_at t))
  from_within p (x ∷ ts) h spelled =
      kept_within (is_left_out t.source x) (token_of t.source p x) (seen_from t.source (p + 1) ts)
      (seen_within (text_at t) x.kind (bytes_of t.source x) p (stands_first p x ts h) (All-head (IsSpelled t.source) x ts spelled).fits)
      (from_within (p + 1) ts (stand_later p x ts h) (All-tail (IsSpelled t.source) x ts spelled))

  -- the words and numbers of a text are within their limits
  pub tokens_within : All (IsSpelled t.source) t.list → All (TokenWithin (text_at t)) (seen t)
  tokens_within spelled = from_within 0 t.list (λ i x e. subst (λ j. slice_get t.list j ≡ Some x) (omega arith) e) spelled

-- ---- what the grammar derives
module _ (at : ℕ → List ℕ) where
  pub record AreWithin (u : List Token) : Type 0 where
    pub each : All (TokenWithin at) u

  one : (x : Token) (u : List Token) → AreWithin (x ∷ u) → TokenWithin at x
  one x u h = All-head (TokenWithin at) x u h.each

  after : (x : Token) (u : List Token) → AreWithin (x ∷ u) → AreWithin u
  after x u h = record { each = All-tail (TokenWithin at) x u h.each }

  left : (u v : List Token) → AreWithin (u ++ v) → AreWithin u
  left [] v h = record { each = All-nil (TokenWithin at) }
  left (x ∷ u) v h = record { each = All-cons (TokenWithin at) x u (one x (u ++ v) h) (left u v (after x (u ++ v) h)).each }

  right : (u v : List Token) → AreWithin (u ++ v) → AreWithin v
  right [] v h = h
  right (x ∷ u) v h = right u v (after x (u ++ v) h)

  push : {A : Type 0} (P : A → Type 0) (xs : List A) (x : A) → All P xs → P x → All P (xs ++ x ∷ [])
  push P xs x hs h = All-append P xs (x ∷ []) hs (All-cons P x [] h (All-nil P))

  listed_within : {A : Type 0} (L : Lang A) (P : A → Type 0) → ((u : List Token) (a : A) → L u a → AreWithin u → P a)
      → {u : List Token} {xs : List A} → Listed L u xs → AreWithin u → All P xs
  listed_within L P each (the_first {u = u} {a = a} h) all = All-cons P a [] (each u a h all) (All-nil P)
  listed_within L P each (the_next {u = u} {v = v} {as' = xs} {a = a} hs h) all =
      push P xs a (listed_within L P each hs (left u _ all)) (each v a h (after _ v (right u _ all)))

  kept_is_within : {A : Type 0} (L : Lang A) (P : A → Type 0) → ((u : List Token) (a : A) → L u a → AreWithin u → P a)
      → {u : List Token} {o : Option A} → Kept L u o → AreWithin u → IfSome o P
  kept_is_within L P each (it_is_kept {u = u} {a = a} h) all = each u a h all

  repeated_within : {A : Type 0} (L : Lang (Option A)) (P : A → Type 0) → ((u : List Token) (o : Option A) → L u o → AreWithin u → IfSome o P)
      → {u : List Token} {xs : List A} → Repeated L u xs → AreWithin u → All P xs
  repeated_within L P each nothing_yet all = All-nil P
  repeated_within L P each (one_kept {u = u} {v = v} {as' = xs} {a = a} hs h) all =
      push P xs a (repeated_within L P each hs (left u v all)) (each v (Some a) h (right u v all))
  repeated_within L P each (one_left_out {u = u} {v = v} hs h) all = repeated_within L P each hs (left u v all)

  name_within : {u : List Token} {n : Word} → g.IsName at u n → AreWithin u → WordWithin n
  name_within (g.a_name k p e) all = one (token.Word k p) [] all

  names_within : {u : List Token} {ns : List Word} → Listed (g.IsName at) u ns → AreWithin u → All WordWithin ns
  names_within h all = listed_within (g.IsName at) WordWithin (λ v n i all. name_within i all) h all

  type_within : {u : List Token} {t : TypeName} → g.IsType at u t → AreWithin u → TypeWithin t
  type_within g.type_long all = tt
  type_within g.type_boolean all = tt
  type_within g.type_string all = tt
  type_within (g.type_class h) all = name_within h all

  result_within : {u : List Token} {t : Option TypeName} → g.IsResult at u t → AreWithin u → ResultWithin t
  result_within g.result_void all = tt
  result_within (g.result_type h) all = type_within h all

  param_within : {u : List Token} {p : Param} → g.IsParam at u p → AreWithin u → ParamWithin p
  param_within (g.a_param {u = u} {v = v} h i) all = record {
    kind = type_within h (left u v (after _ (u ++ v) all));
    name = name_within i (right u v (after _ (u ++ v) all));
  }

  params_within : {u : List Token} {ps : List Param} → g.IsParams at u ps → AreWithin u → All ParamWithin ps
  params_within g.params_none all = All-nil ParamWithin
  params_within (g.params_some {u = u} h) all = listed_within (g.IsParam at) ParamWithin (λ v p i all. param_within i all) h (left u _ (after _ _ all))

  attribute_within : {readonly : Bool} {u : List Token} {e : Export} → g.IsAttribute at readonly u e → AreWithin u → ExportWithin e
  attribute_within (g.an_attribute {u = u} {v = v} h i) all =
      (type_within h (left u _ (after _ _ all)), names_within i (left v _ (right u _ (after _ _ all))))

  export_within : {u : List Token} {e : Export} → g.IsExport at u e → AreWithin u → ExportWithin e
  export_within (g.export_writable h) all = attribute_within h all
  export_within (g.export_readonly {u = u} h) all = attribute_within h (after _ u all)
  export_within (g.export_operation {u = u} {v = v} {w = w} h i j) all =
      let rest = right u _ all in
      (result_within h (left u _ all), name_within i (left v _ rest), params_within j (left w _ (right v _ rest)))

  exports_within : {u : List Token} {es : List Export} → Repeated (Kept (g.IsExport at)) u es → AreWithin u → All ExportWithin es
  exports_within h all = repeated_within (Kept (g.IsExport at)) ExportWithin (λ v o k all. kept_is_within (g.IsExport at) ExportWithin (λ w e i all. export_within i all) k all) h all

  order_within : {u : List Token} {ns : List Word} → g.IsOrder at u ns → AreWithin u → All WordWithin ns
  order_within g.order_none all = All-nil WordWithin
  order_within (g.order_some h) all = names_within h all

  modifier_within : {u : List Token} {m : Modifier} → g.IsModifier at u m → AreWithin u → ModifierWithin m
  modifier_within g.modifier_override all = tt
  modifier_within g.modifier_namelookup all = tt
  modifier_within g.modifier_offset all = tt
  modifier_within (g.modifier_select h) all = name_within h (after _ _ (after _ _ all))

  item_within : {u : List Token} {o : Option Item} → g.IsItem at u o → AreWithin u → IfSome o ItemWithin
  item_within (g.item_order {u = u} h) all = order_within h (left u _ (after _ _ (after _ _ all)))
  item_within (g.item_metaclass {u = u} h) all = name_within h (left u _ (after _ _ (after _ _ all)))
  item_within (g.item_major {n = n}) all = one (token.Number n) _ (after _ _ (after _ _ all))
  item_within (g.item_minor {n = n}) all = one (token.Number n) _ (after _ _ (after _ _ all))
  item_within (g.item_ignored h i) all = tt
  item_within (g.item_method k p {u = u} h i j) all =
      (one (token.Word k p) _ all, listed_within (g.IsModifier at) ModifierWithin (λ v m k all. modifier_within k all) j (left u _ (after _ _ (after _ _ all))))
  item_within (g.item_variables {u = u} {v = v} h i) all = (type_within h (left u _ all), names_within i (left v _ (right u _ all)))

  items_within : {u : List Token} {is : List Item} → Repeated (g.IsItem at) u is → AreWithin u → All ItemWithin is
  items_within h all = repeated_within (g.IsItem at) ItemWithin (λ v o k all. item_within k all) h all

  section_within : {u : List Token} {s : List Item × List Export} → g.IsSection at u s → AreWithin u → All ItemWithin s.0 × All ExportWithin s.1
  section_within g.section_none all = (All-nil ItemWithin, All-nil ExportWithin)
  section_within (g.section_some {u = u} {v = v} h i) all =
      let inside = after _ _ (after _ _ all) in
      (items_within h (left u _ inside), exports_within i (after _ v (after _ _ (right u _ inside))))

  parents_within : {u : List Token} {ns : List Word} → g.IsParents at u ns → AreWithin u → All WordWithin ns
  parents_within g.parents_none all = All-nil WordWithin
  parents_within (g.parents_some {u = u} h) all = names_within h (after _ u all)

  entry_within : {u : List Token} {o : Option IdlInterface} → g.IsEntry at u o → AreWithin u → IfSome o InterfaceWithin
  entry_within (g.entry_interface {u = u} {v = v} {w = w} {x = x} h i j k) all =
      let parents_on = right u _ (after _ _ all) in
      let inside = after _ _ (right v _ parents_on) in
      let parts = section_within k (left x _ (right w _ inside)) in
      record {
        name = name_within h (left u _ (after _ _ all));
        parents = parents_within i (left v _ parents_on);
        before = exports_within j (left w _ inside);
        items = parts.0;
        after = parts.1;
      }
  entry_within (g.entry_forward h) all = tt

  -- a file of tokens within their limits is within its limits
  pub file_within : {u : List Token} {f : IdlFile} → g.IsFile at u f → AreWithin u → FileWithin f
  file_within (g.a_file h) all = record { interfaces = repeated_within (g.IsEntry at) InterfaceWithin (λ v o k all. entry_within k all) h all }

-- the tree of a text is within its limits
pub tree_within : (t : Tokens) (f : IdlFile) → g.IsFile (text_at t) (seen t) f → All (IsSpelled t.source) t.list → FileWithin f
tree_within t f h spelled = file_within (text_at t) h (record { each = tokens_within t spelled })
