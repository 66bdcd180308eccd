-- Tokens, and what the token in hand is.
use Rattle.std.specs.Prelude.{ℕ, Bool, false, List, [], ◌∷◌, Option, Some, None}
use denote.Enum.Bare.{sameb}
use Rattle.som_parse.specs.contracts.token.Key.{the_type as key_type}
use Rattle.som_parse.specs.contracts.token.Sign.{the_type as sign_type}
use Rattle.som_parse.specs.declared.token.Key.{Key}
use Rattle.som_parse.specs.declared.token.Sign.{Sign}
use Rattle.som_parse.specs.declared.token.Token.{Token}
use Rattle.som_parse.specs.declared.token.Token.TheVariants as token
use Rattle.som_ast.specs.declared.words.Word.{Word}

-- the token in hand
abbrev pub head : List Token → Option Token
head [] = None
head (t ∷ ts) = Some t

unfoldable pub same_sign : Sign → Sign → Bool
same_sign = sameb sign_type

unfoldable pub same_key : Key → Key → Bool
same_key = sameb key_type

-- the sign s
abbrev pub is_sign : Sign → Option Token → Bool
is_sign s (Some (token.Mark t)) = same_sign t s
is_sign s _ = false

-- the word k
abbrev pub is_key : Key → Option Token → Bool
is_key k (Some (token.Word j p)) = same_key j k
is_key k _ = false

-- the word at a place, where text_at gives the text of each place
abbrev pub word : (ℕ → List ℕ) → ℕ → Word
word text_at p = record { text = text_at p; token = p }
