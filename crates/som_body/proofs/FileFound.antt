-- Files of bodies and mains are read where their levels suffice, and else are answered as a level too many.
use Rattle.std.proofs.Common.{◌≡◌, ℕ, suc, ◌+◌, map, List, [], ◌∷◌, ◌++◌, length, false, Ok, refl, ap, subst, append_assoc, length-append, arith}
use Rattle.std.proofs.lemmas.List.{append-nil}
use Rattle.som_parse.specs.Languages.{Listed}
use Rattle.som_parse.specs.Readers.{Outcome, Parser, listed, one_more, repeated, keeping, end}
use Rattle.som_parse.specs.Tokens.{head, same_sign}
use Rattle.som_parse.specs.declared.cursor.Turn.{Turn}
use Rattle.som_parse.specs.declared.token.Key.TheVariants as key
use Rattle.som_parse.specs.declared.token.Sign.TheVariants as sign
use Rattle.som_parse.specs.declared.token.Token.{Token}
use Rattle.som_parse.specs.declared.token.Token.TheVariants as token
use Rattle.som_ast.specs.declared.words.Word.{Word}
use Rattle.som_parse.proofs.Found.{expect_found, keyword_found, not_sign, listed_starts}
use Rattle.som_parse.proofs.Steps.{same_sign_self}
use Rattle.som_body.specs.Grammar as g
use Rattle.som_body.specs.Reading as r
use Rattle.som_body.specs.Levels.{top}
use Rattle.som_body.proofs.FormsFound.{word_read}
use Rattle.som_body.proofs.LevelFound.{Found, now, now_one, made, next, Climbs, climbs_first, climbs_end, level_chain}
use Rattle.som_body.proofs.WordFound.{name_starts, names_found}
use Rattle.som_body.specs.StatementReading as sr
use Rattle.som_body.specs.Statements as s
use Rattle.som_ast.specs.declared.body.BlockText.{BlockText}
use Rattle.som_ast.specs.declared.body.BodyFile.{BodyFile}
use Rattle.som_ast.specs.declared.body.BodyText.{BodyText}
use Rattle.som_ast.specs.declared.body.MainFile.{MainFile}
use Rattle.som_body.proofs.FileLaws.{long_body}
use Rattle.som_body.proofs.StatementFound.{block_read}

zeros_length : (w : List Token) → length {A = ℕ} (map (λ (t : Token). 0) w) ≡ length w
zeros_length [] = refl
zeros_length (t ∷ w) = ap suc (zeros_length w)

zeros_top : (w : List Token) → top (map (λ (t : Token). 0) w) ≡ 0
zeros_top [] = refl
zeros_top (t ∷ w) = let e = zeros_top w in omega (arith, e)

module _ (text_at : ℕ → List ℕ) where
  listed_params : {u : List Token} {ns : List Word} → Listed (g.IsName text_at) u ns → (z : List Token) → listed (r.name text_at) (u ++ token.Mark sign.Close ∷ z) ≡ Ok (ns, token.Mark sign.Close ∷ z)
  unfolding same_sign
  listed_params h z = names_found text_at h (token.Mark sign.Close ∷ z) refl

  params_found : {u : List Token} {ns : List Word} → s.IsParams text_at u ns → (z : List Token) → sr.params text_at (u ++ z) ≡ Ok (ns, z)
  unfolding sr.params
  params_found s.no_params z = rw (expect_found sign.Open (token.Mark sign.Close ∷ z), same_sign_self sign.Close) refl
  params_found (s.some_params {u = u} h) z =
      rw (
        expect_found sign.Open ((u ++ token.Mark sign.Close ∷ []) ++ z),
        append_assoc u (token.Mark sign.Close ∷ []) z,
        not_sign g.is_name sign.Close u (token.Mark sign.Close ∷ z) (listed_starts g.is_name (λ v a i. name_starts text_at i) h),
        listed_params h z,
        expect_found sign.Close z,
      ) refl

  params_read : {d : ℕ} {w : List Token} {ns : List Word} (z : List Token) → s.IsParams text_at w ns → Found d (map (λ t. 0) w) ns z (w ++ z) (sr.params text_at (w ++ z))
  params_read {w = w} z i = now (map (λ t. 0) w) w (zeros_length w) (zeros_top w) (params_found i z)

  body_found : {l : List ℕ} {u : List Token} {b : BodyText} → s.IsBody text_at l u b → (d : ℕ) (z : List Token) → Found d l b z (u ++ z) (sr.body text_at d (u ++ z))
  unfolding sr.body
  body_found (s.a_body {u = u} {v = v} {w = w} {x = x} i j k l) d z =
      rw (append_assoc u (token.Mark sign.DoubleColon ∷ (v ++ (w ++ x))) z, append_assoc v (w ++ x) z, append_assoc w x z)
      (next _ (word_read text_at (token.Mark sign.DoubleColon ∷ (v ++ (w ++ (x ++ z)))) i) (next _ (now_one (token.Mark sign.DoubleColon) (expect_found sign.DoubleColon _)) (next _ (word_read text_at (w ++ (x ++ z)) j)
      (next _ (params_read (x ++ z) k) (made _ (block_read text_at l d z) refl)))))

  body_begins : {l : List ℕ} {u : List Token} {b : BodyText} → s.IsBody text_at l u b → (z : List Token) → sr.ends_file (head (u ++ z)) ≡ false
  body_begins (s.a_body (g.a_word k p) i j l) z = refl

  module _ (d : ℕ) where
    abbrev adding : List BodyText → Parser (Turn (List BodyText) (List BodyText))
    adding = one_more sr.ends_file (keeping (sr.body text_at d))

    abbrev reading : List Token → Outcome (List BodyText)
    reading = repeated sr.ends_file (keeping (sr.body text_at d))

    none_climbs : (z : List Token) → Climbs adding d [] [] z z (reading z)
    unfolding repeated
    none_climbs z = climbs_first adding d [] [] [] z refl (omega arith)

    one_climbs : (l m : List ℕ) (v : List Token) {xs : List BodyText} {x : BodyText} (z w : List Token) (o : Outcome (List BodyText)) → Climbs adding d l xs (v ++ z) w o → s.IsBody text_at m v x → Climbs adding d (l ++ m) (xs ++ x ∷ []) z w o
    one_climbs l m v {xs = xs} {x = x} z w o climbs i =
        level_chain adding d l m xs (xs ++ x ∷ []) z (v ++ z) w o climbs
        (rw (body_begins i z) (made _ (made _ (body_found i d z) refl) refl)) (simp length-append (omega (arith, long_body text_at i)))

    bodies_climb : {l : List ℕ} {u : List Token} {xs : List BodyText} → s.IsBodies text_at l u xs → (z : List Token) → Climbs adding d l xs z (u ++ z) (reading (u ++ z))
    bodies_climb s.no_body z = none_climbs z
    bodies_climb (s.one_body {l = l} {m = m} {u = u} {v = v} x y) z = rw (append_assoc u v z) (one_climbs l m v z _ _ (bodies_climb x (v ++ z)) y)

    bodies_found : {l : List ℕ} {u : List Token} {xs : List BodyText} → s.IsBodies text_at l u xs → Found d l xs [] u (reading u)
    bodies_found {l = l} {u = u} {xs = xs} x = climbs_end adding d l xs xs [] u _ (subst (λ y. Climbs adding d l xs [] y (reading y)) (append-nil u) (bodies_climb x [])) refl

    pub body_file_found : (l : List ℕ) (u : List Token) (f : BodyFile) → s.IsBodyFile text_at l u f → Found d l f [] u (sr.body_file text_at d u)
    unfolding sr.body_file end
    body_file_found l u f (s.a_body_file x) = made _ (bodies_found x) refl

    main_block_found : {l : List ℕ} {u : List Token} {b : BlockText} → s.IsBlock text_at l u b → Found d l b [] u (sr.block text_at (sr.statement_at text_at d) (sr.if_at text_at d) u)
    main_block_found {l = l} {u = u} {b = b} x = subst (λ y. Found d l b [] y (sr.block text_at (sr.statement_at text_at d) (sr.if_at text_at d) y)) (append-nil u) (block_read text_at x d [])

    pub main_file_found : (l : List ℕ) (u : List Token) (f : MainFile) → s.IsMainFile text_at l u f → Found d l f [] u (sr.main_file text_at d u)
    unfolding sr.main_file end
    main_file_found l u f (s.a_main_file {p = p} {u = v} x) = made _ (next _ (now_one (token.Word key.Main p) (keyword_found key.Main p v)) (main_block_found x)) refl
