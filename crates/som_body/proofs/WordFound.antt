-- What the grammar derives as a word, a name, a host's code or a type is read, whatever follows.
use Rattle.std.proofs.Common.{◌≡◌, ℕ, List, [], ◌∷◌, ◌++◌, Bool, true, false, Option, Ok, refl}
use Rattle.som_model.specs.declared.syntax.HostCode.{HostCode}
use Rattle.som_parse.specs.Languages.{Listed}
use Rattle.som_parse.specs.Readers.{listed}
use Rattle.som_parse.specs.Tokens.{head, is_sign, same_key, word}
use Rattle.som_parse.specs.declared.token.Key.{Key}
use Rattle.som_parse.specs.declared.token.Key.TheVariants as key
use Rattle.som_parse.specs.declared.token.Sign.TheVariants as sign
use Rattle.som_parse.specs.declared.token.Token.{Token}
use Rattle.som_ast.specs.declared.words.TypeName.{TypeName}
use Rattle.som_ast.specs.declared.words.TypeName.TheVariants as types
use Rattle.som_ast.specs.declared.words.Word.{Word}
use Rattle.som_parse.proofs.Found.{take_word_found, listed_found, StartsWith, not_key}
use Rattle.som_parse.proofs.Steps.{apart_key}
use Rattle.som_body.specs.Grammar as g
use Rattle.som_body.specs.Reading as r

abbrev begins_type : Key → Bool
begins_type key.Long = true
begins_type key.Boolean = true
begins_type key.Str = true
begins_type k = g.is_name k

name_begins : (k : Key) → g.is_name k ≡ true → begins_type k ≡ true
name_begins key.Long e = refl
name_begins key.Boolean e = refl
name_begins key.Str e = refl
name_begins k e = e

module _ (text_at : ℕ → List ℕ) where
  pub any_word_found : {u : List Token} {w : Word} → g.IsWord text_at u w → (z : List Token) → r.any_word text_at (u ++ z) ≡ Ok (w, z)
  unfolding r.any_word
  any_word_found (g.a_word k p) z = take_word_found (r.worded text_at) k p (word text_at p) z refl

  pub name_found : {u : List Token} {n : Word} → g.IsName text_at u n → (z : List Token) → r.name text_at (u ++ z) ≡ Ok (n, z)
  unfolding r.name
  name_found (g.a_name k p e) z = take_word_found (r.named text_at) k p (word text_at p) z (rw e refl)

  pub host_found : {u : List Token} {c : HostCode} → g.IsHost text_at u c → (z : List Token) → r.host text_at (u ++ z) ≡ Ok (c, z)
  unfolding r.host
  host_found (g.a_host k p {c = c} e) z = take_word_found (r.hosted text_at) k p c z e

  pub name_starts : {u : List Token} {n : Word} → g.IsName text_at u n → StartsWith g.is_name u
  name_starts (g.a_name k p e) = record { first = k; place = p; others = []; is = refl; passes = e }

  pub names_found : {u : List Token} {ns : List Word} → Listed (g.IsName text_at) u ns → (z : List Token) → is_sign sign.Comma (head z) ≡ false → listed (r.name text_at) (u ++ z) ≡ Ok (ns, z)
  names_found h z last = listed_found (g.IsName text_at) (r.name text_at) (λ y. Unit {0}) (λ y. tt) (λ v a y i c. name_found i y) h z tt last

  class_found : {u : List Token} {n : Word} → g.IsName text_at u n → (z : List Token) → r.kind text_at (u ++ z) ≡ Ok (types.Class n, z)
  unfolding r.kind
  class_found (g.a_name k p e) z =
      rw (apart_key g.is_name k key.Long e refl, apart_key g.is_name k key.Boolean e refl, apart_key g.is_name k key.Str e refl, name_found (g.a_name k p e) z) refl

  pub kind_found : {u : List Token} {t : TypeName} → g.IsType text_at u t → (z : List Token) → r.kind text_at (u ++ z) ≡ Ok (t, z)
  unfolding r.kind same_key
  kind_found g.type_long z = refl
  kind_found g.type_boolean z = refl
  kind_found g.type_string z = refl
  kind_found (g.type_class h) z = class_found h z

  type_starts : {u : List Token} {t : TypeName} → g.IsType text_at u t → StartsWith begins_type u
  type_starts (g.type_long {p = p}) = record { first = key.Long; place = p; others = []; is = refl; passes = refl }
  type_starts (g.type_boolean {p = p}) = record { first = key.Boolean; place = p; others = []; is = refl; passes = refl }
  type_starts (g.type_string {p = p}) = record { first = key.Str; place = p; others = []; is = refl; passes = refl }
  type_starts (g.type_class h) = let s = name_starts h in record { first = s.first; place = s.place; others = s.others; is = s.is; passes = name_begins s.first s.passes }

  pub outcome_found : {u : List Token} {t : Option TypeName} → g.IsResult text_at u t → (z : List Token) → r.outcome text_at (u ++ z) ≡ Ok (t, z)
  unfolding r.outcome same_key
  outcome_found g.result_void z = refl
  outcome_found (g.result_type {u = u} h) z = rw (not_key begins_type key.Void u z (type_starts h) refl, kind_found h z) refl
