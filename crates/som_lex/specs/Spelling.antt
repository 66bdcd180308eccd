-- What spells a token, and what a text literal means.
use Rattle.std.specs.Prelude.{◌≡◌, ℕ, ◌≤◌, nat_le, ⊤, Bool, true, false, ◌&&◌, List, [], ◌∷◌, ◌++◌, ◌==◌, not, length}
use Rattle.std.specs.List.{list_all}
use Rattle.som_model.specs.declared.limits.TheConstants.{MAX_NAME, MAX_TEXT}
use Rattle.som_lex.specs.declared.lexeme.TheConstants.{MAX_NUMBER}
use Rattle.som_lex.specs.declared.token.TokenKind.{TokenKind}
use Rattle.som_lex.specs.declared.token.TokenKind.TheVariants as kinds
use Rattle.som_lex.specs.Alphabet.{quote, backslash, line_feed, hash, zero_digit, is_digit, is_letter, is_word_byte, is_plain, is_escape, escaped, is_single, is_double}
use Rattle.som_lex.specs.Values.{number_of, text_of}

-- plain bytes and escapes, and the text that they mean
pub data Means : List ℕ → List ℕ → Type 0 where
  nothing : Means [] []
  a_plain : {b : ℕ} {u v : List ℕ} → is_plain b ≡ true → Means u v → Means (b ∷ u) (b ∷ v)
  an_escape : {b : ℕ} {u v : List ℕ} → is_escape b ≡ true → Means u v → Means (backslash ∷ b ∷ u) (escaped b ∷ v)

-- these bytes spell a token of this kind
pub data Spells : TokenKind → List ℕ → Type 0 where
  a_word : {b : ℕ} {u : List ℕ} → is_letter b ≡ true → list_all is_word_byte u ≡ true → Spells kinds.Word (b ∷ u)
  a_zero : Spells kinds.Number (zero_digit ∷ [])
  a_number : {b : ℕ} {u : List ℕ} → is_digit b ≡ true → (b == zero_digit) ≡ false → list_all is_digit u ≡ true → Spells kinds.Number (b ∷ u)
  a_literal : (u v : List ℕ) → Means u v → Spells kinds.Literal (quote ∷ (u ++ quote ∷ []))
  a_sign : {b : ℕ} → is_single b ≡ true → Spells kinds.Sign (b ∷ [])
  a_double : {b c : ℕ} → is_double b c ≡ true → Spells kinds.Sign (b ∷ c ∷ [])
  a_directive : {u : List ℕ} → list_all (λ b. not (b == line_feed)) u ≡ true → Spells kinds.Directive (hash ∷ u)

-- a token of this kind with this spelling is within its limit
abbrev pub FitsLimit : TokenKind → List ℕ → Type 0
FitsLimit kinds.Word bs = length bs ≤ MAX_NAME
FitsLimit kinds.Number bs = number_of bs ≤ MAX_NUMBER
FitsLimit kinds.Literal bs = length (text_of bs) ≤ MAX_TEXT
FitsLimit kinds.Sign bs = ⊤
FitsLimit kinds.Directive bs = ⊤

-- whether bytes are a word by themselves, within the limit
abbrev pub is_word : List ℕ → Bool
is_word [] = false
is_word (b ∷ u) = is_letter b && list_all is_word_byte u && nat_le (length (b ∷ u)) MAX_NAME
