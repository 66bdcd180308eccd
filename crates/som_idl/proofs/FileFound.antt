-- What the grammar derives as a section, an interface or a file is read.
use Rattle.std.proofs.Common.{◌≡◌, ℕ, List, [], ◌∷◌, ◌++◌, true, false, Option, Some, Ok, refl, subst, append_assoc}
use Rattle.std.proofs.lemmas.List.{append-nil}
use Rattle.som_parse.specs.Languages.{Repeated, Kept}
use Rattle.som_parse.specs.Readers.{repeated, end}
use Rattle.som_parse.specs.Tokens.{head, is_sign, same_sign}
use Rattle.som_parse.specs.declared.token.Key.TheVariants as key
use Rattle.som_parse.specs.declared.token.Sign.TheVariants as sign
use Rattle.som_parse.specs.declared.token.Token.{Token}
use Rattle.som_parse.specs.declared.token.Token.TheVariants as token
use Rattle.som_ast.specs.declared.words.Word.{Word}
use Rattle.som_ast.specs.declared.interface.Export.{Export}
use Rattle.som_ast.specs.declared.interface.IdlFile.{IdlFile}
use Rattle.som_ast.specs.declared.interface.IdlInterface.{IdlInterface}
use Rattle.som_ast.specs.declared.interface.Item.{Item}
use Rattle.som_idl.specs.Grammar as g
use Rattle.som_idl.specs.Reading as r
use Rattle.som_parse.proofs.Steps.{same_key_self, same_sign_self}
use Rattle.som_parse.proofs.Found.{expect_found, keyword_found, repeated_found}
use Rattle.som_idl.proofs.FileLaws.{long_entry}
use Rattle.som_idl.proofs.NameFound.{name_found, names_found, exports_found}
use Rattle.som_idl.proofs.ItemFound.{items_found}

brace_ends : (z : List Token) → r.ends_exports (head (token.Mark sign.CloseBrace ∷ z)) ≡ true
brace_ends z = rw (same_sign_self sign.CloseBrace) refl

module _ (text_at : ℕ → List ℕ) where
  section_found : {u : List Token} {s : List Item × List Export} → g.IsSection text_at u s → (z : List Token) → r.section text_at (u ++ token.Mark sign.CloseBrace ∷ z) ≡ Ok (s, token.Mark sign.CloseBrace ∷ z)
  unfolding r.section
  section_found g.section_none z = refl
  section_found (g.section_some {p = p} {u = u} {v = v} h i) z =
      rw (
        same_key_self key.Implementation,
        expect_found sign.OpenBrace ((u ++ token.Mark sign.CloseBrace ∷ token.Mark sign.Semicolon ∷ v) ++ token.Mark sign.CloseBrace ∷ z),
        append_assoc u (token.Mark sign.CloseBrace ∷ token.Mark sign.Semicolon ∷ v) (token.Mark sign.CloseBrace ∷ z),
        items_found text_at h (token.Mark sign.Semicolon ∷ (v ++ token.Mark sign.CloseBrace ∷ z)),
        expect_found sign.CloseBrace (token.Mark sign.Semicolon ∷ (v ++ token.Mark sign.CloseBrace ∷ z)),
        expect_found sign.Semicolon (v ++ token.Mark sign.CloseBrace ∷ z),
        exports_found text_at i (token.Mark sign.CloseBrace ∷ z) (brace_ends z),
      ) refl

  section_ends : {u : List Token} {s : List Item × List Export} → g.IsSection text_at u s → (z : List Token) → r.ends_exports (head (u ++ token.Mark sign.CloseBrace ∷ z)) ≡ true
  section_ends g.section_none z = brace_ends z
  section_ends (g.section_some h i) z = same_key_self key.Implementation

  parents_found : {u : List Token} {ps : List Word} → g.IsParents text_at u ps → (z : List Token) → r.parents text_at (u ++ token.Mark sign.OpenBrace ∷ z) ≡ Ok (ps, token.Mark sign.OpenBrace ∷ z)
  unfolding r.parents same_sign
  parents_found g.parents_none z = refl
  parents_found (g.parents_some h) z = names_found text_at h (token.Mark sign.OpenBrace ∷ z) refl

  no_forward : {u : List Token} {ps : List Word} → g.IsParents text_at u ps → (z : List Token) → is_sign sign.Semicolon (head (u ++ token.Mark sign.OpenBrace ∷ z)) ≡ false
  unfolding same_sign
  no_forward g.parents_none z = refl
  no_forward (g.parents_some h) z = refl

  interface_found : {v w x : List Token} (n : Word) {ps : List Word} {es : List Export} {s : List Item × List Export}
      → g.IsParents text_at v ps → Repeated (Kept (g.IsExport text_at)) w es → g.IsSection text_at x s → (z : List Token)
      → r.interface_of text_at n (v ++ token.Mark sign.OpenBrace ∷ (w ++ (x ++ token.Mark sign.CloseBrace ∷ token.Mark sign.Semicolon ∷ z)))
      ≡ Ok (Some (record { name = n; parents = ps; before = es; items = s.0; after = s.1 }), z)
  unfolding r.interface_of
  interface_found {v = v} {w = w} {x = x} n h i j z =
      rw (
        parents_found h (w ++ (x ++ token.Mark sign.CloseBrace ∷ token.Mark sign.Semicolon ∷ z)),
        expect_found sign.OpenBrace (w ++ (x ++ token.Mark sign.CloseBrace ∷ token.Mark sign.Semicolon ∷ z)),
        exports_found text_at i (x ++ token.Mark sign.CloseBrace ∷ token.Mark sign.Semicolon ∷ z) (section_ends j (token.Mark sign.Semicolon ∷ z)),
        section_found j (token.Mark sign.Semicolon ∷ z),
        expect_found sign.CloseBrace (token.Mark sign.Semicolon ∷ z),
        expect_found sign.Semicolon z,
      ) refl

  regroup : (u v w x : List Token) (s t c : Token) (z : List Token)
      → (u ++ (v ++ s ∷ (w ++ (x ++ t ∷ c ∷ [])))) ++ z ≡ u ++ (v ++ s ∷ (w ++ (x ++ t ∷ c ∷ z)))
  regroup u v w x s t c z = simp append_assoc refl

  pub entry_found : {u : List Token} {o : Option IdlInterface} → g.IsEntry text_at u o → (z : List Token) → r.entry text_at (u ++ z) ≡ Ok (o, z)
  unfolding r.entry
  entry_found (g.entry_interface {p = p} {u = u} {v = v} {w = w} {x = x} {n = n} h i j k) z =
      let rest : List Token = v ++ token.Mark sign.OpenBrace ∷ (w ++ (x ++ token.Mark sign.CloseBrace ∷ token.Mark sign.Semicolon ∷ z)) in
      rw (
        keyword_found key.Interface p ((u ++ (v ++ token.Mark sign.OpenBrace ∷ (w ++ (x ++ token.Mark sign.CloseBrace ∷ token.Mark sign.Semicolon ∷ [])))) ++ z),
        regroup u v w x (token.Mark sign.OpenBrace) (token.Mark sign.CloseBrace) (token.Mark sign.Semicolon) z,
        name_found text_at h (v ++ token.Mark sign.OpenBrace ∷ (w ++ (x ++ token.Mark sign.CloseBrace ∷ token.Mark sign.Semicolon ∷ z))),
        no_forward i (w ++ (x ++ token.Mark sign.CloseBrace ∷ token.Mark sign.Semicolon ∷ z)),
      ) (interface_found n i j k z)
  entry_found (g.entry_forward {p = p} {u = u} h) z =
      rw (
        keyword_found key.Interface p ((u ++ token.Mark sign.Semicolon ∷ []) ++ z),
        append_assoc u (token.Mark sign.Semicolon ∷ []) z,
        name_found text_at h (token.Mark sign.Semicolon ∷ z),
        same_sign_self sign.Semicolon,
      ) refl

  entry_starts : {u : List Token} {o : Option IdlInterface} → g.IsEntry text_at u o → (z : List Token) → r.ends_file (head (u ++ z)) ≡ false
  entry_starts (g.entry_interface h i j k) z = refl
  entry_starts (g.entry_forward h) z = refl

  entries_found : {u : List Token} {is : List IdlInterface} → Repeated (g.IsEntry text_at) u is → repeated r.ends_file (r.entry text_at) u ≡ Ok (is, [])
  entries_found {u = u} {is = is} h = subst (λ y. repeated r.ends_file (r.entry text_at) y ≡ Ok (is, [])) (append-nil u)
      (repeated_found r.ends_file (g.IsEntry text_at) (r.entry text_at) (λ v o i. long_entry text_at i) (λ v o y i. entry_found i y) (λ v o y i. entry_starts i y) h [] refl)

  pub file_found : (u : List Token) (f : IdlFile) → g.IsFile text_at u f → r.file text_at u ≡ Ok (f, [])
  unfolding r.file end
  file_found u f (g.a_file h) = rw (entries_found h) refl
