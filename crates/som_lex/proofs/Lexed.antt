-- Whatever its bytes are, a text has tokens or a first fault.
use Rattle.std.proofs.Common.{◌≡◌, ℕ, zero, suc, ◌+◌, ◌-◌, ◌<◌, ◌≤◌, ◌⊎◌, inl, inr, List, [], ◌∷◌, length, drop, Option, Some, None, Result, Ok, Err, refl, sym, ap, subst, arith, length-append}
use Rattle.std.proofs.lemmas.List.{length-drop}
use Rattle.som_lex.specs.declared.lexeme.Lexeme.{Lexeme}
use Rattle.som_lex.specs.declared.token.TokenKind.{TokenKind}
use Rattle.som_lex.specs.declared.token.LexToken.{LexToken}
use Rattle.som_lex.specs.declared.fault.LexFault.{LexFault}
use Rattle.som_lex.specs.Line.{is_fresh}
use Rattle.som_lex.specs.Lexeme.{lexeme_at}
use Rattle.som_lex.specs.Front.{IsGap, IsToken, IsPiece, a_blank, a_line_comment, a_block_comment}
use Rattle.som_lex.specs.Cut.{IsCut, Stops, ended, a_gap, a_token, here, after_gap, after_token, token_from}
use Rattle.som_lex.proofs.Longest.{Told, some_bytes}
use Rattle.som_lex.proofs.Fronts.{front_told}

-- a blank or a comment has bytes, and they are there
gap_some : (left : List ℕ) (n : ℕ) → IsGap left n → 0 < n
gap_some _ _ (a_blank e) = omega arith
gap_some _ _ (a_line_comment u rest e f) = omega arith
gap_some _ _ (a_block_comment u rest e) = omega arith

gap_within : (left : List ℕ) (n : ℕ) → IsGap left n → n ≤ length left
gap_within _ _ (a_blank {bs = bs} e) = omega arith
gap_within _ _ (a_line_comment u rest e f) = omega (arith, length-append u rest)
gap_within _ _ (a_block_comment u rest e) = omega (arith, length-append u (42 ∷ 47 ∷ rest))

module _ (source : List ℕ) where
  -- the source from a place on has tokens, or a first fault
  abbrev pub Lexes : ℕ → Type 0
  Lexes at = ((ts : List LexToken) × IsCut source at ts) ⊎ ((f : LexFault) × Stops source at f)

  past_gap : (at n : ℕ) → IsGap (drop at source) n → Lexes (at + n) → Lexes at
  past_gap at n g (inl (ts, c)) = inl (ts, a_gap g c)
  past_gap at n g (inr (f, s)) = inr (f, after_gap g s)

  past_token : (at n : ℕ) (kind : TokenKind) → IsToken (is_fresh source at) (drop at source) kind n → Lexes (at + n) → Lexes at
  past_token at n kind t (inl (ts, c)) = inl (token_from kind at (at + n) ∷ ts, a_token t c)
  past_token at n kind t (inr (f, s)) = inr (f, after_token t s)

  -- and so it has, if it has from each later place on
  abbrev Later : ℕ → Type 0
  Later at = (n : ℕ) → 0 < n → n ≤ length (drop at source) → Lexes (at + n)

  past_piece : (at n : ℕ) (kind : Option TokenKind) → IsPiece (is_fresh source at) (drop at source) kind n → Later at → Lexes at
  past_piece at n None g later = past_gap at n g (later n (gap_some (drop at source) n g) (gap_within (drop at source) n g))
  past_piece at n (Some kind) t later =
      past_token at n kind t (later n (some_bytes kind n (drop at source) t.longest.stands.spelled) t.longest.stands.within)

  past_front : (at : ℕ) (r : Result Lexeme LexFault) → Told (is_fresh source at) at (drop at source) r → Later at → Lexes at
  past_front at (Ok x) (n, e, piece) later = past_piece at n x.token piece later
  past_front at (Err f) fault later = inr (f, here fault)

  by_left : (at : ℕ) (left : List ℕ) → drop at source ≡ left → at ≤ length source → Later at → Lexes at
  by_left at [] e le later =
      let size : length (drop at source) ≡ length source - at = length-drop at source in
      let none : length (drop at source) ≡ 0 = ap (λ (l : List ℕ). length l) e in
      let end : length source ≡ at = omega arith in
      subst Lexes end (inl ([], ended))
  by_left at (b ∷ bs) e le later =
      past_front at (lexeme_at (is_fresh source at) at (b ∷ bs)) (subst (λ (l : List ℕ). Told (is_fresh source at) at l (lexeme_at (is_fresh source at) at (b ∷ bs))) (sym e) (front_told (is_fresh source at) at b bs)) later

  lexed_from : (left at : ℕ) → at ≤ length source → length source ≤ at + left → Lexes at
  lexed_from zero at le few =
      by_left at (drop at source) refl le (λ n some within.
      let size : length (drop at source) ≡ length source - at = length-drop at source in absurd (omega arith))
  lexed_from (suc left) at le few =
      by_left at (drop at source) refl le (λ n some within.
      let size : length (drop at source) ≡ length source - at = length-drop at source in
      lexed_from left (at + n) (omega arith) (omega arith))

  pub lexed : Lexes 0
  lexed = lexed_from (length source) 0 (omega arith) (omega arith)
