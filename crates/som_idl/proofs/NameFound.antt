-- What the grammar derives as a name, a type, a parameter or an export is read, whatever follows.
use Rattle.std.proofs.Common.{◌≡◌, ℕ, List, [], ◌∷◌, ◌++◌, Bool, true, false, Option, Ok, refl, append_assoc}
use Rattle.som_parse.specs.Languages.{Listed, Repeated, Kept, it_is_kept}
use Rattle.som_parse.specs.Readers.{listed, keeping}
use Rattle.som_parse.specs.Tokens.{head, is_sign, same_sign, same_key, word}
use Rattle.som_parse.specs.declared.token.Key.{Key}
use Rattle.som_parse.specs.declared.token.Key.TheVariants as key
use Rattle.som_parse.specs.declared.token.Sign.TheVariants as sign
use Rattle.som_parse.specs.declared.token.Token.{Token}
use Rattle.som_parse.specs.declared.token.Token.TheVariants as token
use Rattle.som_ast.specs.declared.words.TypeName.{TypeName}
use Rattle.som_ast.specs.declared.words.TypeName.TheVariants as types
use Rattle.som_ast.specs.declared.words.Word.{Word}
use Rattle.som_ast.specs.declared.interface.Export.{Export}
use Rattle.som_ast.specs.declared.interface.Export.TheVariants as exports
use Rattle.som_ast.specs.declared.interface.Param.{Param}
use Rattle.som_idl.specs.Grammar as g
use Rattle.som_idl.specs.Reading as r
use Rattle.som_parse.proofs.Steps.{same_sign_self, apart_key}
use Rattle.som_parse.proofs.Found.{expect_found, keyword_found, take_word_found, listed_found, repeated_found, keeping_found, StartsWith, starts_more, not_key, not_sign, listed_starts}
use Rattle.som_parse.proofs.Turns.{IsLong}
use Rattle.som_idl.proofs.NameLaws.{long_export}

-- ---- first words
abbrev pub begins_type : Key → Bool
begins_type key.Long = true
begins_type key.Boolean = true
begins_type key.Str = true
begins_type k = g.is_name k

abbrev pub begins_result : Key → Bool
begins_result key.Void = true
begins_result k = begins_type k

abbrev pub begins_export : Key → Bool
begins_export key.Attribute = true
begins_export key.Readonly = true
begins_export k = begins_result k

abbrev pub is_in : Key → Bool
is_in key.In = true
is_in _ = false

name_begins : (k : Key) → g.is_name k ≡ true → begins_type k ≡ true
name_begins key.Long e = refl
name_begins key.Boolean e = refl
name_begins key.Str e = refl
name_begins k e = e

type_begins : (k : Key) → begins_type k ≡ true → begins_result k ≡ true
type_begins key.Void e = refl
type_begins k e = e

result_begins : (k : Key) → begins_result k ≡ true → begins_export k ≡ true
result_begins key.Attribute e = refl
result_begins key.Readonly e = refl
result_begins k e = e

module _ (text_at : ℕ → List ℕ) where
  pub name_starts : {u : List Token} {n : Word} → g.IsName text_at u n → StartsWith g.is_name u
  name_starts (g.a_name k p e) = record { first = k; place = p; others = []; is = refl; passes = e }

  pub names_start : {u : List Token} {ns : List Word} → Listed (g.IsName text_at) u ns → StartsWith g.is_name u
  names_start h = listed_starts g.is_name (λ v a i. name_starts i) h

  type_starts : {u : List Token} {t : TypeName} → g.IsType text_at u t → StartsWith begins_type u
  type_starts (g.type_long {p = p}) = record { first = key.Long; place = p; others = []; is = refl; passes = refl }
  type_starts (g.type_boolean {p = p}) = record { first = key.Boolean; place = p; others = []; is = refl; passes = refl }
  type_starts (g.type_string {p = p}) = record { first = key.Str; place = p; others = []; is = refl; passes = refl }
  type_starts (g.type_class h) = let s = name_starts h in record { first = s.first; place = s.place; others = s.others; is = s.is; passes = name_begins s.first s.passes }

  result_starts : {u : List Token} {t : Option TypeName} → g.IsResult text_at u t → StartsWith begins_result u
  result_starts (g.result_void {p = p}) = record { first = key.Void; place = p; others = []; is = refl; passes = refl }
  result_starts (g.result_type h) = let s = type_starts h in record { first = s.first; place = s.place; others = s.others; is = s.is; passes = type_begins s.first s.passes }

  param_starts : {u : List Token} {a : Param} → g.IsParam text_at u a → StartsWith is_in u
  param_starts (g.a_param {p = p} {u = u} {v = v} h i) = record { first = key.In; place = p; others = u ++ v; is = refl; passes = refl }

  export_starts : {u : List Token} {e : Export} → g.IsExport text_at u e → StartsWith begins_export u
  export_starts (g.export_writable (g.an_attribute {p = p} h i)) = record { first = key.Attribute; place = p; others = _; is = refl; passes = refl }
  export_starts (g.export_readonly {p = p} {u = u} h) = record { first = key.Readonly; place = p; others = u; is = refl; passes = refl }
  export_starts (g.export_operation {v = v} {w = w} h i j) =
      let s = result_starts h in
      starts_more (v ++ (w ++ token.Mark sign.Semicolon ∷ [])) (record { first = s.first; place = s.place; others = s.others; is = s.is; passes = result_begins s.first s.passes })

  -- ---- names and types
  pub name_found : {u : List Token} {n : Word} → g.IsName text_at u n → (z : List Token) → r.name text_at (u ++ z) ≡ Ok (n, z)
  unfolding r.name
  name_found (g.a_name k p e) z = take_word_found (r.named text_at) k p (word text_at p) z (rw e refl)

  pub names_found : {u : List Token} {ns : List Word} → Listed (g.IsName text_at) u ns → (z : List Token) → is_sign sign.Comma (head z) ≡ false → listed (r.name text_at) (u ++ z) ≡ Ok (ns, z)
  names_found h z last = listed_found (g.IsName text_at) (r.name text_at) (λ y. Unit {0}) (λ y. tt) (λ v a y i c. name_found i y) h z tt last

  class_found : {u : List Token} {n : Word} → g.IsName text_at u n → (z : List Token) → r.kind text_at (u ++ z) ≡ Ok (types.Class n, z)
  unfolding r.kind
  class_found (g.a_name k p e) z =
      rw (apart_key g.is_name k key.Long e refl, apart_key g.is_name k key.Boolean e refl, apart_key g.is_name k key.Str e refl, name_found (g.a_name k p e) z) refl

  pub kind_found : {u : List Token} {t : TypeName} → g.IsType text_at u t → (z : List Token) → r.kind text_at (u ++ z) ≡ Ok (t, z)
  unfolding r.kind same_key
  kind_found g.type_long z = refl
  kind_found g.type_boolean z = refl
  kind_found g.type_string z = refl
  kind_found (g.type_class h) z = class_found h z

  outcome_found : {u : List Token} {t : Option TypeName} → g.IsResult text_at u t → (z : List Token) → r.outcome text_at (u ++ z) ≡ Ok (t, z)
  unfolding r.outcome same_key
  outcome_found g.result_void z = refl
  outcome_found (g.result_type {u = u} h) z = rw (not_key begins_type key.Void u z (type_starts h) refl, kind_found h z) refl

  -- ---- parameters
  param_found : {u : List Token} {a : Param} → g.IsParam text_at u a → (z : List Token) → r.param text_at (u ++ z) ≡ Ok (a, z)
  unfolding r.param
  param_found (g.a_param {p = p} {u = u} {v = v} h i) z = rw (keyword_found key.In p ((u ++ v) ++ z), append_assoc u v z, kind_found h (v ++ z), name_found i z) refl

  listed_params : {u : List Token} {ps : List Param} → Listed (g.IsParam text_at) u ps → (z : List Token) → listed (r.param text_at) (u ++ token.Mark sign.Close ∷ z) ≡ Ok (ps, token.Mark sign.Close ∷ z)
  unfolding same_sign
  listed_params h z = listed_found (g.IsParam text_at) (r.param text_at) (λ y. Unit {0}) (λ y. tt) (λ v a y i c. param_found i y) h (token.Mark sign.Close ∷ z) tt refl

  params_found : {u : List Token} {ps : List Param} → g.IsParams text_at u ps → (z : List Token) → r.params text_at (u ++ z) ≡ Ok (ps, z)
  unfolding r.params
  params_found g.params_none z = rw (expect_found sign.Open (token.Mark sign.Close ∷ z), same_sign_self sign.Close) refl
  params_found (g.params_some {u = u} h) z =
      rw (
        expect_found sign.Open ((u ++ token.Mark sign.Close ∷ []) ++ z),
        append_assoc u (token.Mark sign.Close ∷ []) z,
        not_sign is_in sign.Close u (token.Mark sign.Close ∷ z) (listed_starts is_in (λ v a i. param_starts i) h),
        listed_params h z,
        expect_found sign.Close z,
      ) refl

  -- ---- exports
  pub listed_names : {u : List Token} {ns : List Word} → Listed (g.IsName text_at) u ns → (z : List Token) → listed (r.name text_at) (u ++ token.Mark sign.Semicolon ∷ z) ≡ Ok (ns, token.Mark sign.Semicolon ∷ z)
  unfolding same_sign
  listed_names h z = names_found h (token.Mark sign.Semicolon ∷ z) refl

  attribute_found : {readonly : Bool} {u : List Token} {e : Export} → g.IsAttribute text_at readonly u e → (z : List Token) → r.attribute text_at readonly (u ++ z) ≡ Ok (e, z)
  unfolding r.attribute
  attribute_found (g.an_attribute {p = p} {u = u} {v = v} h i) z =
      rw (
        keyword_found key.Attribute p ((u ++ (v ++ token.Mark sign.Semicolon ∷ [])) ++ z),
        append_assoc u (v ++ token.Mark sign.Semicolon ∷ []) z,
        append_assoc v (token.Mark sign.Semicolon ∷ []) z,
        kind_found h (v ++ token.Mark sign.Semicolon ∷ z),
        listed_names i z,
        expect_found sign.Semicolon z,
      ) refl

  operation_found : {u v w : List Token} {t : Option TypeName} {n : Word} {ps : List Param} → g.IsResult text_at u t → g.IsName text_at v n → g.IsParams text_at w ps → (z : List Token)
      → r.operation text_at ((u ++ (v ++ (w ++ token.Mark sign.Semicolon ∷ []))) ++ z) ≡ Ok (exports.Operation t n ps, z)
  unfolding r.operation
  operation_found {u = u} {v = v} {w = w} h i j z =
      rw (
        append_assoc u (v ++ (w ++ token.Mark sign.Semicolon ∷ [])) z,
        append_assoc v (w ++ token.Mark sign.Semicolon ∷ []) z,
        append_assoc w (token.Mark sign.Semicolon ∷ []) z,
        outcome_found h (v ++ (w ++ token.Mark sign.Semicolon ∷ z)),
        name_found i (w ++ token.Mark sign.Semicolon ∷ z),
        params_found j (token.Mark sign.Semicolon ∷ z),
        expect_found sign.Semicolon z,
      ) refl

  pub export_found : {u : List Token} {e : Export} → g.IsExport text_at u e → (z : List Token) → r.export text_at (u ++ z) ≡ Ok (e, z)
  unfolding r.export same_key
  export_found (g.export_writable (g.an_attribute h i)) z = attribute_found (g.an_attribute h i) z
  export_found (g.export_readonly h) z = attribute_found h z
  export_found (g.export_operation {u = u} {v = v} {w = w} h i j) z =
      rw (
        not_key begins_result key.Readonly (u ++ (v ++ (w ++ token.Mark sign.Semicolon ∷ []))) z (starts_more (v ++ (w ++ token.Mark sign.Semicolon ∷ [])) (result_starts h)) refl,
        not_key begins_result key.Attribute (u ++ (v ++ (w ++ token.Mark sign.Semicolon ∷ []))) z (starts_more (v ++ (w ++ token.Mark sign.Semicolon ∷ [])) (result_starts h)) refl,
      ) (operation_found h i j z)

  goes_on : {v : List Token} {o : Option Export} → Kept (g.IsExport text_at) v o → (z : List Token) → r.ends_exports (head (v ++ z)) ≡ false
  goes_on {v = v} (it_is_kept h) z = rw (not_sign begins_export sign.CloseBrace v z (export_starts h), not_key begins_export key.Implementation v z (export_starts h) refl) refl

  long_kept : {u : List Token} {o : Option Export} → Kept (g.IsExport text_at) u o → IsLong u
  long_kept (it_is_kept h) = long_export text_at h

  pub exports_found : {u : List Token} {es : List Export} → Repeated (Kept (g.IsExport text_at)) u es → (z : List Token) → r.ends_exports (head z) ≡ true → r.exports_at text_at (u ++ z) ≡ Ok (es, z)
  unfolding r.exports_at
  exports_found h z last = repeated_found r.ends_exports (Kept (g.IsExport text_at)) (keeping (r.export text_at)) (λ v o i. long_kept i)
      (λ v o y i. keeping_found (g.IsExport text_at) (r.export text_at) (λ w e x j. export_found j x) v o y i) (λ v o y i. goes_on i y) h z last
