-- Pieces one after the other.
use Rattle.std.proofs.Common.{◌≡◌, ℕ, suc, ◌+◌, List, [], ◌∷◌, ◌++◌, refl, sym, ap, ◌∙◌, append_assoc, arith}
use Rattle.som_parse.specs.Seen.{seen_as}
use Rattle.som_parse.specs.declared.token.Token.{Token}
use Rattle.som_lex_laws.specs.Pieces.{Piece, Space, Bytes, ArePieces, bytes_at, bytes_of_piece, seen_in, text_of_pieces}

pub text_append : (xs ys : List Piece) → text_of_pieces (xs ++ ys) ≡ text_of_pieces xs ++ text_of_pieces ys
text_append [] ys = refl
text_append (x ∷ xs) ys = ap (λ (t : List ℕ). bytes_of_piece x ++ t) (text_append xs ys) ∙ sym (append_assoc (bytes_of_piece x) (text_of_pieces xs) (text_of_pieces ys))

pub are_append : (xs ys : List Piece) → ArePieces xs → ArePieces ys → ArePieces (xs ++ ys)
are_append [] ys h k = k
are_append (x ∷ xs) ys h k = (h.0, are_append xs ys h.1 k)

-- how many tokens pieces are
abbrev pub tokens_in : List Piece → ℕ
tokens_in [] = 0
tokens_in (Space ∷ ps) = tokens_in ps
tokens_in (Bytes kind bs ∷ ps) = 1 + tokens_in ps

pub seen_append : (p : ℕ) (xs ys : List Piece) → seen_in p (xs ++ ys) ≡ seen_in p xs ++ seen_in (p + tokens_in xs) ys
seen_append p [] ys = let e : p ≡ p + 0 = omega arith in ap (λ n. seen_in n ys) e
seen_append p (Space ∷ xs) ys = seen_append p xs ys
seen_append p (Bytes kind bs ∷ xs) ys =
    let e : p + 1 + tokens_in xs ≡ p + (1 + tokens_in xs) = omega arith in
    ap (λ (ts : List Token). seen_as kind bs p ∷ ts) (seen_append (p + 1) xs ys ∙ ap (λ n. seen_in (p + 1) xs ++ seen_in n ys) e)

pub bytes_append : (xs ys : List Piece) (i : ℕ) → bytes_at (tokens_in xs + i) (xs ++ ys) ≡ bytes_at i ys
bytes_append [] ys i = let e : 0 + i ≡ i = omega arith in ap (λ n. bytes_at n ys) e
bytes_append (Space ∷ xs) ys i = bytes_append xs ys i
bytes_append (Bytes kind bs ∷ xs) ys i =
    let e : 1 + tokens_in xs + i ≡ suc (tokens_in xs + i) = omega arith in
    ap (λ n. bytes_at n (Bytes kind bs ∷ (xs ++ ys))) e ∙ bytes_append xs ys i
