-- Readers of expressions where one more level is left, in the code's numbers.
use Rattle.std.proofs.Common.{◌≡◌, ℕ, suc, ◌+◌, ◌-◌, List, sym, ◌∙◌, ap, arith}
use Rattle.som_parse.specs.Readers.{repeat}
use Rattle.som_parse.specs.declared.token.Token.{Token}
use Rattle.som_body.specs.Reading as spec
use Rattle.som_body.specs.declared.level.Line.{Line}
use Rattle.som_body.specs.declared.level.Tall.{Tall}

module _ (text_at : ℕ → List ℕ) where
  pub line_deeper : (d m : ℕ) (l : Line) (ts : List Token) → d ≡ suc m → spec.read text_at (spec.at text_at m) (m + 1) l ts ≡ spec.at text_at d l ts
  unfolding spec.at
  line_deeper d m l ts e = let s : m + 1 ≡ suc m = omega arith in ap (λ k. spec.read text_at (spec.at text_at m) k l ts) s ∙ ap (λ k. spec.at text_at k l ts) (sym e)

  pub steps_deeper : (d : ℕ) (a : Tall) (ts : List Token) → d - 1 + 1 ≡ d → repeat (spec.step text_at (spec.at text_at (d - 1)) (d - 1 + 1)) a ts ≡ spec.steps_from text_at d a ts
  steps_deeper d a ts e = ap (λ k. repeat (spec.step text_at (spec.at text_at (d - 1)) k) a ts) e
