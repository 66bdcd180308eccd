-- The readers of bodies and of mains read their languages, whatever the levels.
use Rattle.std.proofs.Common.{◌≡◌, ℕ, ◌+◌, map, List, [], ◌∷◌, ◌++◌, Option, Some, refl, length-append, arith}
use Rattle.std.proofs.lemmas.List.{append-nil}
use Rattle.som_parse.specs.Languages.{Lang, Listed, Repeated, nothing_yet, one_kept, one_left_out, Kept, it_is_kept}
use Rattle.som_parse.specs.Readers.{◌>>◌, keyword, keeping}
use Rattle.som_parse.specs.declared.token.Key.TheVariants as key
use Rattle.som_parse.specs.declared.token.Sign.TheVariants as sign
use Rattle.som_parse.specs.declared.token.Token.{Token}
use Rattle.som_parse.specs.declared.token.Token.TheVariants as token
use Rattle.som_ast.specs.declared.words.Word.{Word}
use Rattle.som_parse.proofs.Laws.{Lawful, wider, bind_law, pure_law}
use Rattle.som_parse.proofs.Repetition.{repeated_law, keeping_law}
use Rattle.som_parse.proofs.Steps.{after_sign, expect_then, keyword_then, end_then}
use Rattle.som_parse.proofs.Turns.{IsLong}
use Rattle.som_body.specs.Grammar as g
use Rattle.som_body.proofs.WordLaws.{any_word_law, names_law}
use Rattle.som_body.specs.Answer.{Texts}
use Rattle.som_body.specs.StatementReading as sr
use Rattle.som_body.specs.Statements as s
use Rattle.som_ast.specs.declared.body.BlockText.{BlockText}
use Rattle.som_ast.specs.declared.body.BodyText.{BodyText}
use Rattle.som_body.proofs.StatementLaws.{Block, all_kept, block_law, statement_at_law, if_at_law}

module _ (text_at : ℕ → List ℕ) where
  params_law : Lawful (s.IsParams text_at) (sr.params text_at)
  unfolding sr.params
  params_law = expect_then (s.IsParams text_at) _ sign.Open (after_sign _ _ _ sign.Close (pure_law _ _ s.no_params)
      (bind_law (Listed (g.IsName text_at)) _ _ _ (names_law text_at) (λ u ns h. expect_then _ _ sign.Close (pure_law _ _ (s.some_params h)))))

  abbrev Body : Lang BodyText
  Body u b = (l : List ℕ) × s.IsBody text_at l u b

  block_at_law : (d : ℕ) → Lawful (Block text_at) (sr.block text_at (sr.statement_at text_at d) (sr.if_at text_at d))
  block_at_law d = block_law text_at 0 (sr.statement_at text_at d) (sr.if_at text_at d) (statement_at_law text_at d) (if_at_law text_at d)

  body_law : (d : ℕ) → Lawful Body (sr.body text_at d)
  unfolding sr.body
  body_law d = bind_law (g.IsWord text_at) Body _ _ (any_word_law text_at) (λ u c h. expect_then _ _ sign.DoubleColon (bind_law (g.IsWord text_at) _ _ _ (any_word_law text_at) (λ v m i.
      bind_law (s.IsParams text_at) _ _ _ params_law (λ w ns j. bind_law (Block text_at) _ _ _ (block_at_law d) (λ x b k.
      pure_law _ (record { class = c; method = m; params = ns; block = b }) (0 ∷ 0 ∷ 0 ∷ (map (λ t. 0) w ++ k.0), rw append-nil (s.a_body h i j k.1)))))))

  long_word : {u : List Token} {w : Word} → g.IsWord text_at u w → IsLong u
  long_word (g.a_word k p) = omega arith

  pub long_body : {l : List ℕ} {u : List Token} {b : BodyText} → s.IsBody text_at l u b → IsLong u
  long_body (s.a_body h i j k) = simp length-append (omega (arith, long_word h))

  long_kept : {u : List Token} {o : Option BodyText} → Kept Body u o → IsLong u
  long_kept (it_is_kept h) = long_body h.1

  one_more : {u v : List Token} {xs : List BodyText} {x : BodyText} → (l : List ℕ) × s.IsBodies text_at l u xs → Kept Body v (Some x) → (l : List ℕ) × s.IsBodies text_at l (u ++ v) (xs ++ x ∷ [])
  one_more h (it_is_kept i) = (h.0 ++ i.0, s.one_body h.1 i.1)

  kept : {u : List Token} {xs : List BodyText} → Repeated (Kept Body) u xs → (l : List ℕ) × s.IsBodies text_at l u xs
  kept nothing_yet = ([], s.no_body)
  kept (one_kept h i) = one_more (kept h) i
  kept (one_left_out h i) = absurd (all_kept i refl)

  file_of : {u : List Token} {xs : List BodyText} → Repeated (Kept Body) u xs → Texts (s.IsBodyFile text_at) u (record { bodies = xs })
  file_of h = let k = kept h in (k.0, s.a_body_file k.1)

  pub body_file_law : (d : ℕ) → Lawful (Texts (s.IsBodyFile text_at)) (sr.body_file text_at d)
  unfolding sr.body_file
  body_file_law d = bind_law (Repeated (Kept Body)) (Texts (s.IsBodyFile text_at)) _ _ (repeated_law sr.ends_file (Kept Body) (keeping (sr.body text_at d)) (keeping_law Body (sr.body text_at d) (body_law d)) (λ u o h. long_kept h))
      (λ u bs h. end_then _ _ (pure_law _ (record { bodies = bs }) (let k = file_of h in (k.0, rw append-nil k.1))))

  abbrev MainBlock : Lang BlockText
  MainBlock u b = Texts (s.IsMainFile text_at) u (record { block = b })

  main_block_law : (d : ℕ) → Lawful MainBlock (keyword key.Main >> sr.block text_at (sr.statement_at text_at d) (sr.if_at text_at d))
  main_block_law d = keyword_then MainBlock _ key.Main (λ x. wider (Block text_at) (λ u. MainBlock (token.Word key.Main x ∷ u)) _ (λ u b h. (0 ∷ h.0, s.a_main_file h.1)) (block_at_law d))

  pub main_file_law : (d : ℕ) → Lawful (Texts (s.IsMainFile text_at)) (sr.main_file text_at d)
  unfolding sr.main_file
  main_file_law d = bind_law MainBlock (Texts (s.IsMainFile text_at)) _ _ (main_block_law d) (λ u b h. end_then _ _ (pure_law _ (record { block = b }) (h.0, rw append-nil h.1)))
