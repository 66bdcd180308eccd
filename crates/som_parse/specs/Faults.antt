-- Where a text first leaves a language.
use Rattle.std.specs.Prelude.{◌≡◌, ◌<◌, ◌≤◌, ℕ, ◌+◌, List, ◌++◌, length, take, drop, Option}
use Rattle.som_lex.specs.declared.token.Tokens.{Tokens}
use Rattle.som_parse.specs.Languages.{Lang}
use Rattle.som_parse.specs.Seen.{seen_from, seen_before}
use Rattle.som_parse.specs.Tokens.{head}
use Rattle.som_parse.specs.declared.token.Token.{Token}

-- some text of the language begins with these tokens
abbrev pub Begins : {A : Type 0} → Lang A → List Token → Type 0
Begins {A = A} L u = (w : List Token) × (a : A) × L (u ++ w) a

-- The tokens before place k begin some text of the language, and those up to and with it begin none. At the end of the list, they are no text.
pub record IsFirstFault {A : Type 0} (L : Lang A) (t : Tokens) (k : ℕ) : Type 0 where
  pub within : k ≤ length t.list
  pub before : Begins L (seen_before t k)
  pub none : k < length t.list → Begins L (seen_before t (k + 1)) → ⊥
  pub ended : k ≡ length t.list → (a : A) → L (seen_before t k) a → ⊥

-- the token at place k, unless the list ends there or the token is an ignored directive
abbrev pub seen_at : Tokens → ℕ → Option Token
seen_at t k = head (seen_from t.source k (take 1 (drop k t.list)))
