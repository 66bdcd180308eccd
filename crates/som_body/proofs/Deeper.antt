-- Readers of statements where one more level is left, in the code's numbers.
use Rattle.std.proofs.Common.{◌≡◌, ℕ, suc, List, sym, ap}
use Rattle.som_parse.specs.declared.token.Token.{Token}
use Rattle.som_body.specs.StatementReading as statements

module _ (text_at : ℕ → List ℕ) where
  pub statement_deeper : (d m : ℕ) (ts : List Token) → d ≡ suc m → statements.statement text_at (statements.statement_at text_at m) (statements.if_at text_at m) m ts ≡ statements.statement_at text_at d ts
  unfolding statements.statement_at
  statement_deeper d m ts e = ap (λ k. statements.statement_at text_at k ts) (sym e)

  pub if_deeper : (d m : ℕ) (ts : List Token) → d ≡ suc m → statements.if_statement text_at (statements.statement_at text_at m) (statements.if_at text_at m) m ts ≡ statements.if_at text_at d ts
  unfolding statements.statement_at
  if_deeper d m ts e = ap (λ k. statements.if_at text_at k ts) (sym e)
