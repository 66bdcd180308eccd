-- The readers of names, types, parameters and exports read their languages.
use Rattle.std.proofs.Common.{◌≡◌, ℕ, List, [], ◌∷◌, Bool, true, false, cond, Option, Some, None, refl, subst, length-append, arith}
use Rattle.std.proofs.lemmas.List.{append-nil}
use Rattle.som_parse.specs.Languages.{Listed, Repeated, Kept, it_is_kept}
use Rattle.som_parse.specs.Readers.{listed, keeping}
use Rattle.som_parse.specs.Tokens.{is_key, word}
use Rattle.som_parse.specs.declared.token.Key.{Key}
use Rattle.som_parse.specs.declared.token.Key.TheVariants as key
use Rattle.som_parse.specs.declared.token.Sign.TheVariants as sign
use Rattle.som_parse.specs.declared.token.Token.{Token}
use Rattle.som_parse.specs.declared.token.Token.TheVariants as token
use Rattle.som_ast.specs.declared.words.Word.{Word}
use Rattle.som_ast.specs.declared.interface.Export.{Export}
use Rattle.som_idl.specs.Grammar as g
use Rattle.som_idl.specs.Reading as r
use Rattle.som_parse.proofs.Laws.{Lawful, wider, bind_law, pure_law, when_law}
use Rattle.som_parse.proofs.Steps.{IsTaken, it_is_taken, take_word_law, after_sign, after_key, expect_then, keyword_then}
use Rattle.som_parse.proofs.Repetition.{listed_law, repeated_law, keeping_law}
use Rattle.som_parse.proofs.Turns.{IsLong}

module _ (text_at : ℕ → List ℕ) where
  named_by : (b : Bool) (k : Key) (p : ℕ) (a : Word) → g.is_name k ≡ b → ◌≡◌ {A = Option Word} (cond b (Some (word text_at p)) None) (Some a) → g.IsName text_at (token.Word k p ∷ []) a
  named_by true k p a e same = let s : word text_at p ≡ a = cc in subst (λ y. g.IsName text_at (token.Word k p ∷ []) y) s (g.a_name k p e)
  named_by false k p a e same = cc

  taken_name : {u : List Token} {a : Word} → IsTaken (r.named text_at) u a → g.IsName text_at u a
  taken_name (it_is_taken k p {a = a} e) = named_by (g.is_name k) k p a refl e

  pub name_law : Lawful (g.IsName text_at) (r.name text_at)
  unfolding r.name
  name_law = wider (IsTaken (r.named text_at)) (g.IsName text_at) _ (λ u a h. taken_name h)
      (take_word_law (r.named text_at) (record { tokens = token.Word key.Plain 0 ∷ []; value = word text_at 0; reads = it_is_taken key.Plain 0 refl }))

  pub names_law : Lawful (Listed (g.IsName text_at)) (listed (r.name text_at))
  names_law = listed_law (g.IsName text_at) (r.name text_at) name_law

  pub kind_law : Lawful (g.IsType text_at) (r.kind text_at)
  unfolding r.kind
  kind_law = after_key (g.IsType text_at) _ _ key.Long (λ x. pure_law _ _ g.type_long)
      (after_key (g.IsType text_at) _ _ key.Boolean (λ x. pure_law _ _ g.type_boolean)
      (after_key (g.IsType text_at) _ _ key.Str (λ x. pure_law _ _ g.type_string)
      (bind_law (g.IsName text_at) (g.IsType text_at) _ _ name_law (λ u n h. pure_law _ _ (rw append-nil (g.type_class h))))))

  pub outcome_law : Lawful (g.IsResult text_at) (r.outcome text_at)
  unfolding r.outcome
  outcome_law = after_key (g.IsResult text_at) _ _ key.Void (λ x. pure_law _ _ g.result_void)
      (bind_law (g.IsType text_at) (g.IsResult text_at) _ _ kind_law (λ u t h. pure_law _ _ (rw append-nil (g.result_type h))))

  pub param_law : Lawful (g.IsParam text_at) (r.param text_at)
  unfolding r.param
  param_law = keyword_then (g.IsParam text_at) _ key.In (λ x. bind_law (g.IsType text_at) _ _ _ kind_law (λ u t h.
      bind_law (g.IsName text_at) _ _ _ name_law (λ v n i. pure_law _ _ (rw append-nil (g.a_param h i)))))

  pub params_law : Lawful (g.IsParams text_at) (r.params text_at)
  unfolding r.params
  params_law = expect_then (g.IsParams text_at) _ sign.Open (after_sign _ _ _ sign.Close (pure_law _ _ g.params_none)
      (bind_law (Listed (g.IsParam text_at)) _ _ _ (listed_law _ _ param_law) (λ u ps h. expect_then _ _ sign.Close (pure_law _ _ (g.params_some h)))))

  pub attribute_law : (readonly : Bool) → Lawful (g.IsAttribute text_at readonly) (r.attribute text_at readonly)
  unfolding r.attribute
  attribute_law readonly = keyword_then (g.IsAttribute text_at readonly) _ key.Attribute (λ x. bind_law (g.IsType text_at) _ _ _ kind_law (λ u t h.
      bind_law (Listed (g.IsName text_at)) _ _ _ names_law (λ v ns i. expect_then _ _ sign.Semicolon (pure_law _ _ (g.an_attribute h i)))))

  pub operation_law : Lawful (g.IsExport text_at) (r.operation text_at)
  unfolding r.operation
  operation_law = bind_law (g.IsResult text_at) (g.IsExport text_at) _ _ outcome_law (λ u t h. bind_law (g.IsName text_at) _ _ _ name_law (λ v n i.
      bind_law (g.IsParams text_at) _ _ _ params_law (λ w ps j. expect_then _ _ sign.Semicolon (pure_law _ _ (g.export_operation h i j)))))

  pub export_law : Lawful (g.IsExport text_at) (r.export text_at)
  unfolding r.export
  export_law = after_key (g.IsExport text_at) _ _ key.Readonly
      (λ x. wider (g.IsAttribute text_at true) (λ u. g.IsExport text_at (token.Word key.Readonly x ∷ u)) _ (λ u e h. g.export_readonly h) (attribute_law true))
      (when_law (g.IsExport text_at) (is_key key.Attribute) _ _ (wider (g.IsAttribute text_at false) (g.IsExport text_at) _ (λ u e h. g.export_writable h) (attribute_law false)) operation_law)

  pub long_attribute : {readonly : Bool} {u : List Token} {e : Export} → g.IsAttribute text_at readonly u e → IsLong u
  long_attribute (g.an_attribute h i) = omega arith

  pub long_export : {u : List Token} {e : Export} → g.IsExport text_at u e → IsLong u
  long_export (g.export_writable h) = long_attribute h
  long_export (g.export_readonly h) = omega arith
  long_export (g.export_operation h i j) = simp length-append (omega arith)

  long_kept : {u : List Token} {o : Option Export} → Kept (g.IsExport text_at) u o → IsLong u
  long_kept (it_is_kept h) = long_export h

  pub exports_law : Lawful (Repeated (Kept (g.IsExport text_at))) (r.exports_at text_at)
  unfolding r.exports_at
  exports_law = repeated_law r.ends_exports (Kept (g.IsExport text_at)) (keeping (r.export text_at)) (keeping_law _ _ export_law) (λ u o h. long_kept h)
