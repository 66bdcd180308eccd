-- The readers of sections, interfaces and files read their languages.
use Rattle.std.proofs.Common.{ℕ, List, ◌∷◌, ◌++◌, Option, arith}
use Rattle.std.proofs.lemmas.List.{append-nil}
use Rattle.som_parse.specs.Languages.{Listed, Repeated, Kept}
use Rattle.som_parse.specs.declared.token.Key.TheVariants as key
use Rattle.som_parse.specs.declared.token.Sign.TheVariants as sign
use Rattle.som_parse.specs.declared.token.Token.{Token}
use Rattle.som_parse.specs.declared.token.Token.TheVariants as token
use Rattle.som_ast.specs.declared.words.Word.{Word}
use Rattle.som_ast.specs.declared.interface.IdlInterface.{IdlInterface}
use Rattle.som_idl.specs.Grammar as g
use Rattle.som_idl.specs.Reading as r
use Rattle.som_parse.proofs.Laws.{Lawful, wider, bind_law, pure_law}
use Rattle.som_parse.proofs.Steps.{after_sign, after_key, expect_then, keyword_then, end_then}
use Rattle.som_parse.proofs.Repetition.{repeated_law}
use Rattle.som_parse.proofs.Turns.{IsLong}
use Rattle.som_idl.proofs.NameLaws.{name_law, names_law, exports_law}
use Rattle.som_idl.proofs.ItemLaws.{items_law}

module _ (text_at : ℕ → List ℕ) where
  pub section_law : Lawful (g.IsSection text_at) (r.section text_at)
  unfolding r.section
  section_law = after_key (g.IsSection text_at) _ _ key.Implementation (λ x. expect_then _ _ sign.OpenBrace (bind_law (Repeated (g.IsItem text_at)) _ _ _ (items_law text_at) (λ u is h.
      expect_then _ _ sign.CloseBrace (expect_then _ _ sign.Semicolon (bind_law (Repeated (Kept (g.IsExport text_at))) _ _ _ (exports_law text_at) (λ v es i. pure_law _ (is, es) (rw append-nil (g.section_some h i))))))))
      (pure_law _ _ g.section_none)

  pub parents_law : Lawful (g.IsParents text_at) (r.parents text_at)
  unfolding r.parents
  parents_law = after_sign (g.IsParents text_at) _ _ sign.Colon (wider (Listed (g.IsName text_at)) (λ u. g.IsParents text_at (token.Mark sign.Colon ∷ u)) _ (λ u ns h. g.parents_some h) (names_law text_at)) (pure_law _ _ g.parents_none)

  interface_law : (p : ℕ) (u : List Token) (n : Word) → g.IsName text_at u n → Lawful (λ v. g.IsEntry text_at (token.Word key.Interface p ∷ (u ++ v))) (r.interface_of text_at n)
  unfolding r.interface_of
  interface_law p u n h = bind_law (g.IsParents text_at) _ _ _ parents_law (λ v ps i. expect_then _ _ sign.OpenBrace (bind_law (Repeated (Kept (g.IsExport text_at))) _ _ _ (exports_law text_at) (λ w es j.
      bind_law (g.IsSection text_at) _ _ _ section_law (λ x s k. expect_then _ _ sign.CloseBrace (expect_then _ _ sign.Semicolon (pure_law _ _ (g.entry_interface h i j k)))))))

  pub entry_law : Lawful (g.IsEntry text_at) (r.entry text_at)
  unfolding r.entry
  entry_law = keyword_then (g.IsEntry text_at) _ key.Interface (λ p. bind_law (g.IsName text_at) _ _ _ (name_law text_at) (λ u n h.
      after_sign _ _ _ sign.Semicolon (pure_law _ _ (g.entry_forward h)) (interface_law p u n h)))

  pub long_entry : {u : List Token} {o : Option IdlInterface} → g.IsEntry text_at u o → IsLong u
  long_entry (g.entry_interface h i j k) = omega arith
  long_entry (g.entry_forward h) = omega arith

  pub file_law : Lawful (g.IsFile text_at) (r.file text_at)
  unfolding r.file
  file_law = bind_law (Repeated (g.IsEntry text_at)) (g.IsFile text_at) _ _ (repeated_law r.ends_file (g.IsEntry text_at) (r.entry text_at) entry_law (λ u o h. long_entry h))
      (λ u is h. end_then _ _ (pure_law _ _ (rw append-nil (g.a_file h))))
