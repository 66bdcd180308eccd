-- The tokens of a text as grammars see them: ignored directives are left out, and words and literals know their place in the list of all tokens.
use Rattle.std.specs.Prelude.{ℕ, ◌+◌, Bool, false, if◌then◌else◌, List, [], ◌∷◌, take}
use Rattle.std.specs.List.{slice_get}
use Rattle.std.specs.Option.{option_map_or}
use Rattle.som_lex.specs.declared.token.LexToken.{LexToken}
use Rattle.som_lex.specs.declared.token.TokenKind.{TokenKind}
use Rattle.som_lex.specs.declared.token.TokenKind.TheVariants as kinds
use Rattle.som_lex.specs.declared.token.Tokens.{Tokens}
use Rattle.som_lex.specs.Ignored.{is_ignored}
use Rattle.som_lex.specs.Spans.{bytes_of}
use Rattle.som_lex.specs.Values.{number_of}
use Rattle.som_parse.specs.Words.{key_of, sign_of}
use Rattle.som_parse.specs.declared.token.Token.{Token}
use Rattle.som_parse.specs.declared.token.Token.TheVariants as token

-- a token of this kind with these bytes, at place p of the list
abbrev pub seen_as : TokenKind → List ℕ → ℕ → Token
seen_as kinds.Word bs p = token.Word (key_of bs) p
seen_as kinds.Number bs p = token.Number (number_of bs)
seen_as kinds.Literal bs p = token.Literal p
seen_as kinds.Sign bs p = token.Mark (sign_of bs)
seen_as kinds.Directive bs p = token.Directive

abbrev pub is_ignored_as : TokenKind → List ℕ → Bool
is_ignored_as kinds.Directive bs = is_ignored bs
is_ignored_as _ bs = false

-- the token at place p
unfoldable pub token_of : List ℕ → ℕ → LexToken → Token
token_of source p t = seen_as t.kind (bytes_of source t) p

-- an ignored directive
unfoldable pub is_left_out : List ℕ → LexToken → Bool
is_left_out source t = is_ignored_as t.kind (bytes_of source t)

-- these tokens of the source, the first of which is at place p
abbrev pub seen_from : List ℕ → ℕ → List LexToken → List Token
seen_from source p [] = []
seen_from source p (t ∷ ts) = if is_left_out source t then seen_from source (p + 1) ts else token_of source p t ∷ seen_from source (p + 1) ts

-- the places of those
abbrev pub places_from : List ℕ → ℕ → List LexToken → List ℕ
places_from source p [] = []
places_from source p (t ∷ ts) = if is_left_out source t then places_from source (p + 1) ts else p ∷ places_from source (p + 1) ts

-- the first k tokens
abbrev pub seen_before : Tokens → ℕ → List Token
seen_before t k = seen_from t.source 0 (take k t.list)

-- all tokens
abbrev pub seen : Tokens → List Token
seen t = seen_from t.source 0 t.list

-- the text of the token at place p
abbrev pub text_at : Tokens → ℕ → List ℕ
text_at t p = option_map_or (bytes_of t.source) (slice_get t.list p) []
