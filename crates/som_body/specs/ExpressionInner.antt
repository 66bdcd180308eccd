-- What the code's reader of expressions is made of: chains of operators by their line, and a function that reads lines one level down.
use Rattle.std.specs.Prelude.{◌≡◌, ◌≤◌, ℕ, Option, None, Result, IfOk}
use denote.Ref.{Bor, MutBor}
use Rattle.std.specs.declared.alloc.Global.{Global}
use Rattle.som_lex.specs.declared.token.Tokens.{Tokens}
use Rattle.som_parse.specs.Answer.{Answers}
use Rattle.som_parse.specs.Seen.{text_at}
use Rattle.som_parse.specs.declared.cursor.Cursor.{Cursor}
use Rattle.som_parse.specs.declared.cursor.Stop.{Stop}
use Rattle.som_parse.specs.declared.cursor.Turn.{Turn}
use Rattle.som_parse.specs.declared.cursor.Turn.TheVariants.{More, Done}
use Rattle.som_parse.specs.declared.token.Token.{Token}
use Rattle.som_body.specs.Grammar.{or_operator, and_operator, comparison, sum_operator, product_operator}
use Rattle.som_body.specs.Reading.{at, named_height}
use Rattle.som_body.specs.declared.level.Given.{Given}
use Rattle.som_body.specs.declared.level.Line.{Line}
use Rattle.som_body.specs.declared.level.Line.TheVariants as line
use Rattle.som_body.specs.declared.level.NamedCall.{NamedCall}
use Rattle.som_body.specs.declared.level.Tall.{Tall}

-- the operators of a line
abbrev pub operators_of : Line → Token → Option ℕ
operators_of line.Expr = or_operator
operators_of line.Conj = and_operator
operators_of line.Cmp = comparison
operators_of line.Sum = sum_operator
operators_of line.Prod = product_operator
operators_of _ = λ t. None

-- the line of their right operands
abbrev pub operand_of : Line → Line
operand_of line.Expr = line.Conj
operand_of line.Conj = line.Neg
operand_of line.Cmp = line.Sum
operand_of line.Sum = line.Prod
operand_of _ = line.Unary

-- what a turn leaves takes at most d levels
abbrev pub IsLow : ℕ → Turn Tall Tall → Type 0
IsLow d (More a) = a.height ≤ d
IsLow d (Done a) = a.height ≤ d

-- arguments, so far or all, of which none takes more levels than these
abbrev pub AreLow : ℕ → Turn Given Given → Type 0
AreLow d (More g) = g.height ≤ d
AreLow d (Done g) = g.height ≤ d

abbrev pub IsLowCall : ℕ → Turn NamedCall NamedCall → Type 0
IsLowCall d (More s) = named_height s ≤ d
IsLowCall d (Done s) = named_height s ≤ d

-- A function value reads the lines of these tokens where this many levels are left.
pub record Reads (t : Tokens) (depth : ℕ) (pre : Global → Bor Tokens → MutBor Cursor → ℕ → Line → Type 0)
    (post : Global → Bor Tokens → MutBor Cursor → ℕ → Line → Result Tall Stop → MutBor Cursor → Type 0) : Type 0 where
  pub callable : (alloc : Global) (tokens : Bor Tokens) (old : MutBor Cursor) (l : Line) → pre alloc tokens old depth l
  pub reads : (alloc : Global) (tokens : Bor Tokens) (old new : MutBor Cursor) (l : Line) (r : Result Tall Stop) → tokens.now ≡ t → post alloc tokens old depth l r new
      → Answers (at (text_at t) depth l old.now.rest.now) r new.now.rest.now
  pub low : (alloc : Global) (tokens : Bor Tokens) (old new : MutBor Cursor) (l : Line) (r : Result Tall Stop) → post alloc tokens old depth l r new → IfOk r (λ a. a.height ≤ depth)
