-- Texts that are put together of pieces, and their tokens.
use Rattle.std.specs.Prelude.{ℕ, zero, suc, ◌+◌, ⊤, Bool, true, false, ◌||◌, ◌&&◌, ◌==◌, not, List, [], ◌∷◌, ◌++◌, length}
use Rattle.som_lex.specs.declared.token.LexToken.{LexToken}
use Rattle.som_lex.specs.declared.token.TokenKind.{TokenKind}
use Rattle.som_lex.specs.declared.token.TokenKind.TheVariants as kinds
use Rattle.som_lex.specs.declared.token.Tokens.{Tokens}
use Rattle.som_lex.specs.Alphabet.{slash, star, is_double}
use Rattle.som_lex.specs.Cut.{token_from}
use Rattle.som_lex.specs.Spelling.{Spells, FitsLimit}
use Rattle.som_parse.specs.Seen.{seen_as}
use Rattle.som_parse.specs.declared.token.Token.{Token}

-- a space, or the bytes of a token of some kind
pub data Piece : Type 0 where
  Space : Piece
  Bytes : TokenKind → List ℕ → Piece

-- a space is the byte 32
abbrev pub bytes_of_piece : Piece → List ℕ
bytes_of_piece Space = 32 ∷ []
bytes_of_piece (Bytes kind bs) = bs

-- the text of pieces
abbrev pub text_of_pieces : List Piece → List ℕ
text_of_pieces [] = []
text_of_pieces (p ∷ ps) = bytes_of_piece p ++ text_of_pieces ps

-- the bytes spell a token of their kind within its limit, and no directive
abbrev pub IsPiece : Piece → Type 0
IsPiece Space = ⊤
IsPiece (Bytes kinds.Word bs) = Spells kinds.Word bs × FitsLimit kinds.Word bs
IsPiece (Bytes kinds.Number bs) = Spells kinds.Number bs × FitsLimit kinds.Number bs
IsPiece (Bytes kinds.Literal bs) = Spells kinds.Literal bs × FitsLimit kinds.Literal bs
IsPiece (Bytes kinds.Sign bs) = Spells kinds.Sign bs × FitsLimit kinds.Sign bs
IsPiece (Bytes kinds.Directive bs) = ⊥

-- this is so of each
abbrev pub ArePieces : List Piece → Type 0
ArePieces [] = ⊤
ArePieces (p ∷ ps) = IsPiece p × ArePieces ps

-- a word or a number
abbrev pub is_run : Piece → Bool
is_run (Bytes kinds.Word bs) = true
is_run (Bytes kinds.Number bs) = true
is_run _ = false

-- these bytes with the first of those are a longer sign, or open a comment
abbrev pub joins : List ℕ → List ℕ → Bool
joins (b ∷ []) (c ∷ cs) = is_double b c || (b == slash && (c == slash || c == star))
joins bs cs = false

-- whether two pieces side by side are two tokens: a word or a number stands beside no other, and no signs join
abbrev pub are_apart : Piece → Piece → Bool
are_apart (Bytes kinds.Word bs) q = not (is_run q)
are_apart (Bytes kinds.Number bs) q = not (is_run q)
are_apart (Bytes kinds.Sign bs) (Bytes kinds.Sign cs) = not (joins bs cs)
are_apart p q = true

-- whether this is so of a piece and those after it
abbrev pub apart_after : Piece → List Piece → Bool
apart_after p [] = true
apart_after p (q ∷ qs) = are_apart p q && apart_after q qs

-- whether it is so of all neighbours; anything may stand after a space
abbrev pub all_apart : List Piece → Bool
all_apart ps = apart_after Space ps

-- the tokens of pieces, the first of which stands at this byte
abbrev pub tokens_at : ℕ → List Piece → List LexToken
tokens_at at [] = []
tokens_at at (Space ∷ ps) = tokens_at (at + 1) ps
tokens_at at (Bytes kind bs ∷ ps) = token_from kind at (at + length bs) ∷ tokens_at (at + length bs) ps

-- the tokens of the text of pieces
abbrev pub tokens_of : List Piece → Tokens
tokens_of ps = record { source = text_of_pieces ps; list = tokens_at 0 ps }

-- the tokens as grammars see them, the first of them at this place
abbrev pub seen_in : ℕ → List Piece → List Token
seen_in p [] = []
seen_in p (Space ∷ ps) = seen_in p ps
seen_in p (Bytes kind bs ∷ ps) = seen_as kind bs p ∷ seen_in (p + 1) ps

-- the bytes of the token at this place, or none behind the last
abbrev pub bytes_at : ℕ → List Piece → List ℕ
bytes_at p [] = []
bytes_at p (Space ∷ ps) = bytes_at p ps
bytes_at zero (Bytes kind bs ∷ ps) = bs
bytes_at (suc p) (Bytes kind bs ∷ ps) = bytes_at p ps
