-- A text cut into tokens, from left to right.
use Rattle.std.specs.Prelude.{◌≢◌, ℕ, ◌+◌, List, [], ◌∷◌, length, drop, Result, Ok, Err}
use Rattle.som_lex.specs.declared.token.TokenKind.{TokenKind}
use Rattle.som_lex.specs.declared.token.LexToken.{LexToken}
use Rattle.som_lex.specs.declared.fault.LexFault.{LexFault}
use Rattle.som_lex.specs.declared.fault.LexFault.TheVariants as faults
use Rattle.som_lex.specs.Line.{is_fresh}
use Rattle.som_lex.specs.Front.{IsGap, IsToken, IsFault}

abbrev pub token_from : TokenKind → ℕ → ℕ → LexToken
token_from kind start end = record { kind = kind; start = start; end = end }

-- the source from this place on is these tokens, with blanks and comments before, between and after them
pub data IsCut (source : List ℕ) : ℕ → List LexToken → Type 0 where
  ended : IsCut source (length source) []
  a_gap : {at n : ℕ} {ts : List LexToken} → IsGap (drop at source) n → IsCut source (at + n) ts → IsCut source at ts
  a_token : {at n : ℕ} {kind : TokenKind} {ts : List LexToken} → IsToken (is_fresh source at) (drop at source) kind n → IsCut source (at + n) ts → IsCut source at (token_from kind at (at + n) ∷ ts)

-- the first fault of the source from this place on: tokens, blanks and comments stand before it
pub data Stops (source : List ℕ) : ℕ → LexFault → Type 0 where
  here : {at : ℕ} {f : LexFault} → IsFault (is_fresh source at) at (drop at source) f → Stops source at f
  after_gap : {at n : ℕ} {f : LexFault} → IsGap (drop at source) n → Stops source (at + n) f → Stops source at f
  after_token : {at n : ℕ} {kind : TokenKind} {f : LexFault} → IsToken (is_fresh source at) (drop at source) kind n → Stops source (at + n) f → Stops source at f

-- these are the tokens of the source, or this is its first fault
abbrev pub IsLexed : List ℕ → Result (List LexToken) LexFault → Type 0
IsLexed source (Ok ts) = IsCut source 0 ts
IsLexed source (Err f) = f ≢ faults.NoMemory → Stops source 0 f
