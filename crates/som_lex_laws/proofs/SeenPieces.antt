-- The tokens of pieces are seen as what their bytes spell, and are found at their places.
use Rattle.std.proofs.Common.{◌≡◌, ℕ, zero, suc, ◌+◌, ◌-◌, false, List, [], ◌∷◌, ◌++◌, length, take, refl, ap, ◌∙◌, take_at, drop_at, arith}
use Rattle.std.specs.List.{slice_get}
use Rattle.std.specs.Option.{option_map_or}
use Rattle.som_lex.specs.declared.token.LexToken.{LexToken}
use Rattle.som_lex.specs.declared.token.TokenKind.{TokenKind}
use Rattle.som_lex.specs.declared.token.TokenKind.TheVariants as kinds
use Rattle.som_lex.specs.Cut.{token_from}
use Rattle.som_lex.specs.Spans.{bytes_of}
use Rattle.som_parse.specs.Seen.{is_left_out, seen, seen_as, seen_from, text_at, token_of}
use Rattle.som_lex_laws.specs.Pieces.{Piece, Space, Bytes, IsPiece, ArePieces, bytes_at, seen_in, text_of_pieces, tokens_at, tokens_of}
use Rattle.som_lex_laws.proofs.CutPieces.{onwards}

-- a token behind a front, with these bytes
abbrev behind : List ℕ → TokenKind → List ℕ → LexToken
behind front kind bs = token_from kind (length front) (length front + length bs)

its_bytes : (front : List ℕ) (kind : TokenKind) (bs rest : List ℕ) → bytes_of (front ++ (bs ++ rest)) (behind front kind bs) ≡ bs
its_bytes front kind bs rest =
    let n = length front + length bs - length front in
    let size : length bs ≡ n = omega arith in
    ap (λ (left : List ℕ). take n left) (drop_at front (bs ++ rest) (length front) refl) ∙ take_at bs rest n size

kept : (source : List ℕ) (kind : TokenKind) (at end : ℕ) (bs : List ℕ) → IsPiece (Bytes kind bs) → is_left_out source (token_from kind at end) ≡ false
unfolding is_left_out
kept source kinds.Word at end bs p = refl
kept source kinds.Number at end bs p = refl
kept source kinds.Literal at end bs p = refl
kept source kinds.Sign at end bs p = refl
kept source kinds.Directive at end bs p = absurd p

its_token : (front : List ℕ) (kind : TokenKind) (bs rest : List ℕ) (p : ℕ) → token_of (front ++ (bs ++ rest)) p (behind front kind bs) ≡ seen_as kind bs p
unfolding token_of
its_token front kind bs rest p = ap (λ (x : List ℕ). seen_as kind x p) (its_bytes front kind bs rest)

seen_same : (front : List ℕ) (p : ℕ) (ps : List Piece) → ArePieces ps → seen_from (front ++ text_of_pieces ps) p (tokens_at (length front) ps) ≡ seen_in p ps
seen_same front p [] h = refl
seen_same front p (Space ∷ ps) h = onwards (λ s n. seen_from s p (tokens_at n ps) ≡ seen_in p ps) front (32 ∷ []) (text_of_pieces ps) (seen_same (front ++ 32 ∷ []) p ps h.1)
seen_same front p (Bytes kind bs ∷ ps) h =
    let rest = text_of_pieces ps in
    let source = front ++ (bs ++ rest) in
    let later = onwards (λ s n. seen_from s (p + 1) (tokens_at n ps) ≡ seen_in (p + 1) ps) front bs rest (seen_same (front ++ bs) (p + 1) ps h.1) in
    rw (kept source kind (length front) (length front + length bs) bs h.0) (ap (λ x. x ∷ seen_from source (p + 1) (tokens_at (length front + length bs) ps)) (its_token front kind bs rest p) ∙ ap (λ xs. seen_as kind bs p ∷ xs) later)

pub all_seen : (ps : List Piece) → ArePieces ps → seen (tokens_of ps) ≡ seen_in 0 ps
all_seen ps h = seen_same [] 0 ps h

-- ---- places

-- the bytes of the token at a place of a list, if there is one
abbrev found_in : List ℕ → List LexToken → ℕ → List ℕ
found_in source ts i = option_map_or (bytes_of source) (slice_get ts i) []

bytes_from : (front : List ℕ) (ps : List Piece) (i : ℕ) → found_in (front ++ text_of_pieces ps) (tokens_at (length front) ps) i ≡ bytes_at i ps
bytes_from front [] zero = refl
bytes_from front [] (suc i) = refl
bytes_from front (Space ∷ ps) i = onwards (λ s n. found_in s (tokens_at n ps) i ≡ bytes_at i ps) front (32 ∷ []) (text_of_pieces ps) (bytes_from (front ++ 32 ∷ []) ps i)
bytes_from front (Bytes kind bs ∷ ps) zero = its_bytes front kind bs (text_of_pieces ps)
bytes_from front (Bytes kind bs ∷ ps) (suc i) = onwards (λ s n. found_in s (tokens_at n ps) i ≡ bytes_at i ps) front bs (text_of_pieces ps) (bytes_from (front ++ bs) ps i)

pub all_bytes : (ps : List Piece) (p : ℕ) → text_at (tokens_of ps) p ≡ bytes_at p ps
all_bytes ps p = bytes_from [] ps p
